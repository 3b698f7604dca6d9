-- R-9 over a session file, of any bytes whatever and any lent output: what `irga_grounds` returns and leaves, and its bytes beside the records that a
-- run leaves. `proofs/Grounds.antt` proves it. Assumes nothing.
use Rattle.std.specs.Prelude.{ℕ, ◌*◌, ◌≤◌, ◌<◌, true, false, List, ◌≡◌, length, drop}
use Rattle.std.proofs.Math.Option.{some}
use Rattle.std.proofs.Math.ListN.{get_elem?}
use Rattle.fields.specs.Fields.{AreBytes}
use Rattle.layout.specs.Records.{answer_at}
use Rattle.rules.specs.Answer.{refusal_of}
use Rattle.engine.specs.Transcript.{Line}
use Rattle.grounds.specs.Grounds.{ground_number, entry_ground}
use Rattle.format.specs.Header.{event_count, well_formed}
use Rattle.entries.specs.Entries.{entry_of}
use Rattle.forms.specs.declared.Form.{Form}
use Rattle.session.specs.Transcript.{transcript_of}
use Rattle.answers.specs.Run.{FillsAs}
use Rattle.claims.specs.Claim.{LineIs, event_in, Kept}

-- a byte beside a refusal: 1 to 4 where it is 8, and 0 where it is not
pub record Tells (refusal byte : ℕ) : Type 0 where
  pub named : refusal ≡ 8 → (1 ≤ byte) × (byte ≤ 4)
  pub none : (refusal ≡ 8 → ⊥) → byte ≡ 0

-- the ground of event i, counted from 0, is given: the transcript has a line i, which is of this event, and byte i of the output is the number of the
-- ground at that line, beside the refusal of its answer. What the number says of the sample's signal is `EveryGround`'s `passed`
pub record EventGrounded (file out : List ℕ) (i : ℕ) : Type 0 where
  pub line : Line
  pub is : LineIs file i line
  pub entry : line.entry ≡ entry_of (event_in file i)
  pub byte : get_elem? out i ≡ some (ground_number (entry_ground line.before line.entry))
  pub tells : Tells (refusal_of line.answer) (ground_number (entry_ground line.before line.entry))

-- a file whose grounds are given: status 0, a byte written for each event, one line for each event, each event's ground, and the bytes after them
-- as they were
pub record Grounded (file old : List ℕ) (status written : ℕ) (out : List ℕ) : Type 0 where
  pub accepted : status ≡ 0
  pub bytes : written ≡ event_count file
  pub lines : length (transcript_of file) ≡ event_count file
  pub events : (i : ℕ) → i < event_count file → EventGrounded file out i
  pub size : length out ≡ length old
  pub after : drop (event_count file) out ≡ drop (event_count file) old

-- one of the three holds of every file and every output: 12; else 13, for an output shorter than the event count; else the grounds are given
pub record GroundsHold (file old : List ℕ) (status written : ℕ) (out : List ℕ) : Type 0 where
  pub malformed : well_formed file ≡ false → Kept 12 old status written out
  pub short : well_formed file ≡ true → length old < event_count file → Kept 13 old status written out
  pub long : well_formed file ≡ true → event_count file ≤ length old → Grounded file old status written out

-- the claim: it holds of whatever `irga_grounds` returns and leaves, by its contract
abbrev pub EveryGrounds : Type 0
EveryGrounds =
    (file old : List ℕ) (status written : ℕ) (out : List ℕ) → FillsAs Form.Grounds file old status written out → GroundsHold file old status written out

-- beside a run of the same file: of every event, byte i is 1 to 4 exactly where the record that the run leaves at byte 24 i has refusal 8. `ran` is
-- what the run leaves in an output that was `room`
abbrev pub BesideTheRun : Type 0
BesideTheRun =
    (file room old : List ℕ) → AreBytes file → well_formed file ≡ true → 24 * event_count file ≤ length room → event_count file ≤ length old
    → (status written status' written' : ℕ) (ran out : List ℕ) → FillsAs Form.Records file room status written ran → FillsAs Form.Grounds file old status' written' out
    → (i : ℕ) → i < event_count file → (byte : ℕ) × (get_elem? out i ≡ some byte) × Tells (answer_at ran (24 * i)).refusal byte
