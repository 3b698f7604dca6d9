-- The limits of a state, as far as the arithmetic of the rules needs them: every record that a list of events leaves is within them.
-- Assumes nothing.
use Rattle.curve.specs.declared.Sheet.{Sheet}
use Rattle.std.specs.Prelude.{Bool, true, ◌&&◌, leb, nat_abs, None, Option, Some}
use Rattle.curve.specs.Limits.{within, sheet_within}
use Rattle.counting.specs.Limits.{integration_within}
use Rattle.sampling.specs.Sample.{mode_within}
use Rattle.store.specs.Store.{stored_within}
use Rattle.rules.specs.declared.State.{State}

abbrev pub loaded_within : Option Sheet → Bool
loaded_within None = true
loaded_within (Some s) = sheet_within s

unfoldable pub workable : State → Bool
workable st =
    loaded_within st.loaded && leb (nat_abs st.q) 20000000 && within 500000 2000000 st.s && mode_within st.mode
    && integration_within st.integration && stored_within st.stored
