-- Under one sheet, air, zero and span a higher raw signal never reads lower, in absolute mode and against one reference signal, across
-- zero and with refusals 7 and 8 included. Assumes nothing.
use Rattle.std.specs.Prelude.{ℕ, ◌<◌, ℤ, ◌≤ℤ◌}
use Rattle.curve.specs.declared.Sheet.{Sheet}
use Rattle.curve.specs.declared.Air.{Air}
use Rattle.curve.specs.Limits.{SheetOk, AirOk}
use Rattle.curve.specs.Absolute.{absolute_of}
use Rattle.curve.specs.Order.{NotAbove}
use Rattle.reference.specs.Signal.{signal_of, against_of}
use Rattle.reference.specs.Search.{reading_under}

-- under the sheet s, the air a, the zero Q and the span S; the reference signal R is below the sheet's K, as every one is that a search finds
pub record RawRisesUnder (s : Sheet) (a : Air) (q : ℤ) (span : ℕ) : Type 0 where
  -- V never falls as raw rises, nor does the signal against a reference as V rises
  pub signal : {raw other : ℤ} → raw ≤ℤ other → signal_of raw q span ≤ℤ signal_of other q span
  pub against : {v w : ℤ} (r : ℕ) → r < s.k → v ≤ℤ w → against_of v r s.k ≤ℤ against_of w r s.k
  -- so the reading never falls as raw rises, either way
  pub reading : {raw other : ℤ} → raw ≤ℤ other → NotAbove (reading_under s raw q a span) (reading_under s other q a span)
  pub reading_against : {raw other : ℤ} (r : ℕ) → r < s.k → raw ≤ℤ other
      → NotAbove (absolute_of s (against_of (signal_of raw q span) r s.k) a) (absolute_of s (against_of (signal_of other q span) r s.k) a)

-- under every sheet and in all air within their limits, whatever the zero and the span
abbrev pub RawRises : Type 0
RawRises = (s : Sheet) (a : Air) → SheetOk s → AirOk a → (q : ℤ) (span : ℕ) → RawRisesUnder s a q span
