-- How a tool ends that fills a lent buffer, as a host has it: its status and the bytes written. Assumes nothing.
use Rattle.std.specs.Prelude.{ℕ, Result, Ok, Err}
use Rattle.layout.specs.declared.TurnedAway.{TurnedAway}

-- the number with which it turns away
abbrev pub number_of : TurnedAway → ℕ
number_of TurnedAway.Malformed = 11
number_of TurnedAway.NoSession = 12
number_of TurnedAway.NoRoomForAnswers = 13
number_of TurnedAway.TooMany = 14
number_of TurnedAway.NoRoomForFile = 15
number_of TurnedAway.NoSuchNumber = 16
number_of TurnedAway.NoRoomForPage = 17

-- the status: 0, or that number
abbrev pub status_of : {A : Type 0} → Result A TurnedAway → ℕ
status_of (Ok a) = 0
status_of (Err away) = number_of away

-- the bytes written, none where it turned away
abbrev pub written_of : Result ℕ TurnedAway → ℕ
written_of (Ok written) = written
written_of (Err away) = 0
