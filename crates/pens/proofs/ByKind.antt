-- What is done for the kind that a byte names. Assumes nothing.
use Rattle.std.proofs.Common.{◌≡◌, refl, Bool, true, false, ℕ, cond, Option, Some, None}
use Rattle.std.specs.Option.{option_map_or}
use lib.Dec.{eqb}
use Rattle.recorder.specs.declared.ChannelKind.{ChannelKind}
use Rattle.recorder.specs.declared.ChannelKind.TheVariants.{Voltage, Current}
use Rattle.recorder.specs.Recorder.{kind_of}

pub by_kind : {A : Type 0} (code : ℕ) (k : Option ChannelKind) (f : ChannelKind → A) (none : A) → k ≡ kind_of code
    → option_map_or f k none ≡ cond (eqb code 0) (f Voltage) (cond (eqb code 1) (f Current) none)
by_kind {A} code k f none e = rw e (go (eqb code 0) (eqb code 1))
  where
    go : (s t : Bool) → option_map_or f (cond s (Some Voltage) (cond t (Some Current) None)) none ≡ cond s (f Voltage) (cond t (f Current) none)
    go true t = refl
    go false true = refl
    go false false = refl
