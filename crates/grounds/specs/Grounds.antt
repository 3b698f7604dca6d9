-- R-9, grounds of over range: which of the four grounds of refusal 8 is the first that holds of a sample at a state. The four tests are those of
-- the absolute reading (`signal_high` to `wet_high`). Assumes nothing.
use Rattle.std.specs.Prelude.{ℕ, cond, eqb, ℤ, Option, Some, None}
use Rattle.curve.specs.declared.Sheet.{Sheet}
use Rattle.curve.specs.declared.Air.{Air}
use Rattle.curve.specs.Curve.{reduced_of, wet_of}
use Rattle.curve.specs.Absolute.{signal_low, signal_high, signal_at_k, reduced_high, wet_high}
use Rattle.reference.specs.Signal.{signal_of}
use Rattle.sampling.specs.declared.Mode.{Mode}
use Rattle.sampling.specs.declared.Measurement.{Measurement}
use Rattle.sampling.specs.Sample.{air_of, checked_on, finding_refusal, signal_read}
use Rattle.store.specs.Store.{finding_in}
use Rattle.rules.specs.declared.State.{State}
use Rattle.rules.specs.declared.Event.{Event}
use Rattle.rules.specs.declared.Entry.{Entry}
use Rattle.rules.specs.Limits.{workable}
use Rattle.events.specs.Sample.{storing}
use Rattle.grounds.specs.declared.Ground.{Ground}

-- its number, in document 02's order, 0 for none: the byte that a host gets
abbrev pub ground_number : Option Ground → ℕ
ground_number None = 0
ground_number (Some Ground.SignalHigh) = 1
ground_number (Some Ground.SignalAtK) = 2
ground_number (Some Ground.ReducedHigh) = 3
ground_number (Some Ground.WetHigh) = 4

-- the first that holds of a signal V under a sheet, in the air of the cell: V above 150,000,000; V at or above K; z above 10^8; c above
-- 3,000,000,000; none where none of them does
unfoldable pub first_ground : Sheet → ℤ → Air → Option Ground
first_ground s v a =
    cond (signal_high v) (Some Ground.SignalHigh)
    (cond (signal_at_k s v) (Some Ground.SignalAtK)
    (cond (reduced_high (reduced_of v a)) (Some Ground.ReducedHigh)
    (cond (wet_high (wet_of s v (reduced_of v a) a)) (Some Ground.WetHigh)
    None)))

-- none where V is refused with 7, which comes before 8
abbrev pub ground_at : Sheet → ℤ → Air → Option Ground
ground_at s v a = cond (signal_low v) None (first_ground s v a)

-- the signal at which a sample is read, under a sheet, the zero Q, the span S and a mode, with what was found
abbrev pub signal_on : Sheet → ℤ → ℕ → Mode → Measurement → Option ℕ → ℤ
signal_on s q span mode at f = signal_read s mode f (signal_of at.raw q span)

-- of that sample: none where it is refused with 6 or 9, which come before 7
unfoldable pub ground_on : Sheet → ℤ → ℕ → Mode → Measurement → Option ℕ → Option Ground
ground_on s q span mode at f =
    cond (checked_on mode at)
    (cond (eqb (finding_refusal mode f) 0) (ground_at s (signal_on s q span mode at f) (air_of at)) None)
    None

-- under the loaded sheet; none without one, which is refused with 1
abbrev pub ground_under : Option Sheet → ℤ → ℕ → Mode → Measurement → Option ℕ → Option Ground
ground_under None q span mode at f = None
ground_under (Some s) q span mode at f = ground_on s q span mode at f

-- what a sample goes by at a state: the finding that stands stored once the sample has stored (R-7)
abbrev pub finding_for : State → Measurement → Option ℕ
finding_for st at = finding_in (storing st at).stored

-- R-9: the ground of a sample at a state; none at a record that the engine does not work with, which is refused with 1
unfoldable pub ground_of : State → Measurement → Option Ground
ground_of st at = cond (workable st) (ground_under st.loaded st.q st.s st.mode at (finding_for st at)) None

-- of an entry: none of any that is no sample
abbrev pub entry_ground : State → Entry → Option Ground
entry_ground st (Entry.Known (Event.Load index)) = None
entry_ground st (Entry.Known (Event.Zero raw)) = None
entry_ground st (Entry.Known (Event.Span at cylinder)) = None
entry_ground st (Entry.Known (Event.Reference cylinder e)) = None
entry_ground st (Entry.Known Event.Absolute) = None
entry_ground st (Entry.Known (Event.Sample at)) = ground_of st at
entry_ground st (Entry.Known Event.Start) = None
entry_ground st (Entry.Known Event.Stop) = None
entry_ground st (Entry.Known Event.Area) = None
entry_ground st (Entry.Known Event.StartShort) = None
entry_ground st (Entry.Malformed kind) = None
