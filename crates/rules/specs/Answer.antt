-- The paper's numbers of an answer: document 01's refusal, m, x and y for each case, and the kind byte of an entry. Assumes
-- nothing.
use Rattle.std.specs.Prelude.{ℕ, Bool, eqb, ℤ, pos}
use Rattle.rules.specs.declared.Event.{Event}
use Rattle.rules.specs.declared.Entry.{Entry}
use Rattle.rules.specs.declared.Answer.{Answer}

-- the refusal number, 0 if accepted
abbrev pub refusal_of : Answer → ℕ
refusal_of Answer.Done = 0
refusal_of (Answer.Zeroed q) = 0
refusal_of (Answer.Spanned s) = 0
refusal_of (Answer.Reading r wet dry) = 0
refusal_of (Answer.Area n area) = 0
refusal_of (Answer.Refused number) = number

-- m: of a sample R, of a span S, of an area n
abbrev pub m_of : Answer → ℕ
m_of Answer.Done = 0
m_of (Answer.Zeroed q) = 0
m_of (Answer.Spanned s) = s
m_of (Answer.Reading r wet dry) = r
m_of (Answer.Area n area) = n
m_of (Answer.Refused number) = 0

-- x: of a sample the wet value, of a zero Q, of an area the area
abbrev pub x_of : Answer → ℤ
x_of Answer.Done = pos 0
x_of (Answer.Zeroed q) = q
x_of (Answer.Spanned s) = pos 0
x_of (Answer.Reading r wet dry) = wet
x_of (Answer.Area n area) = area
x_of (Answer.Refused number) = pos 0

-- y: of a sample the dry value
abbrev pub y_of : Answer → ℤ
y_of Answer.Done = pos 0
y_of (Answer.Zeroed q) = pos 0
y_of (Answer.Spanned s) = pos 0
y_of (Answer.Reading r wet dry) = dry
y_of (Answer.Area n area) = pos 0
y_of (Answer.Refused number) = pos 0

abbrev pub accepted : Answer → Bool
accepted a = eqb (refusal_of a) 0

-- the kind byte: 1 to 10, or that of a malformed entry
abbrev pub kind_of : Entry → ℕ
kind_of (Entry.Known (Event.Load index)) = 1
kind_of (Entry.Known (Event.Zero raw)) = 2
kind_of (Entry.Known (Event.Span at cylinder)) = 3
kind_of (Entry.Known (Event.Reference cylinder e)) = 4
kind_of (Entry.Known Event.Absolute) = 5
kind_of (Entry.Known (Event.Sample at)) = 6
kind_of (Entry.Known Event.Start) = 7
kind_of (Entry.Known Event.Stop) = 8
kind_of (Entry.Known Event.Area) = 9
kind_of (Entry.Known Event.StartShort) = 10
kind_of (Entry.Malformed kind) = kind
