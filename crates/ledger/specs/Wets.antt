-- The wet values counted since the start: a list beside the ledger, made of the entries and their answers, and of whether the
-- ledger's series runs. It sees nothing of the engine and nothing of the exact values. Assumes nothing.
use Rattle.std.specs.Prelude.{Bool, cond, List, [], ◌∷◌, ◌++◌, ℤ}
use Rattle.rules.specs.declared.Event.{Event}
use Rattle.rules.specs.declared.Entry.{Entry}
use Rattle.rules.specs.declared.Answer.{Answer}
use Rattle.rules.specs.Answer.{x_of, accepted}

-- accepted: a sample's wet value, x of its answer, is taken at the end if the series runs; kinds 1 to 5 and both starts empty the list
abbrev pub wets_by : Bool → List ℤ → Entry → Answer → List ℤ
wets_by runs ws (Entry.Known (Event.Load index)) a = []
wets_by runs ws (Entry.Known (Event.Zero raw)) a = []
wets_by runs ws (Entry.Known (Event.Span at cylinder)) a = []
wets_by runs ws (Entry.Known (Event.Reference cylinder e)) a = []
wets_by runs ws (Entry.Known Event.Absolute) a = []
wets_by runs ws (Entry.Known (Event.Sample at)) a = cond runs (ws ++ (x_of a ∷ [])) ws
wets_by runs ws (Entry.Known Event.Start) a = []
wets_by runs ws (Entry.Known Event.Stop) a = ws
wets_by runs ws (Entry.Known Event.Area) a = ws
wets_by runs ws (Entry.Known Event.StartShort) a = []
-- a malformed entry is never accepted
wets_by runs ws (Entry.Malformed kind) a = ws

-- refused: the list stays
unfoldable pub wets_step : Bool → List ℤ → Entry → Answer → List ℤ
wets_step runs ws entry a = cond (accepted a) (wets_by runs ws entry a) ws
