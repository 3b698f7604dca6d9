-- What the host gets of every line, from the bytes of a run's output. The line's answer stands there and is read as it was written
-- (`line_read`); its numbers are below 2^53 in size, and its case is one that its kind byte can get, so nothing of it is lost
-- (`proofs/Kept.antt` of doubles). Assumes nothing.
use Prim.Native.Nat.{ℕ, ◌*◌, ◌≤◌}
use native.Mathlib.Omega.{arith}
use mathlib.Core.Bool.{true}
use mathlib.Core.List.{List}
use mathlib.Core.Path.{◌≡◌, refl, ap}
use borrow.Author.Tests.{le-leb}
use lib.IntN.{pos}
use lib.ListN.{length, take, drop, length-take, length-drop}
use lib.Seq.{take-take}
use Rattle.fields.specs.Fields.{AreBytes}
use Rattle.layout.specs.Records.{answer_at}
use Rattle.rules.specs.declared.Answer.{Answer}
use Rattle.format.specs.Header.{event_count, well_formed}
use Rattle.engine.specs.Transcript.{Line, record_of_line, record_with}
use Rattle.forms.specs.declared.Form.{Form}
use Rattle.answers.specs.Run.{FillsAs}
use Rattle.ledger.proofs.Fits.{Fit}
use Rattle.doubles.specs.Doubles.{host_sample, host_area, host_sample_in, host_area_in}
use Rattle.doubles.proofs.Laws.{is_whole}
use Rattle.doubles.proofs.Kept.{reading_kept, area_kept, refusal_kept}
use Rattle.claims.specs.Claim.{LineIs}
use Rattle.claims.specs.Every.{GivenAsSample, GivenAsArea, EveryReading, EveryArea}
use Rattle.claims.proofs.Claim.{line_below, line_fit, line_read, length_output}

-- ---- by the case of the answer

of_sample : (kind : ℕ) (a : Answer) → Fit kind a → GivenAsSample a (host_sample (record_with kind a))
unfolding host_sample
of_sample kind (Answer.Reading r wet dry) f =
    let s = f.small in
    record {
      is = reading_kept (record_with kind (Answer.Reading r wet dry)) refl f.suits s.x s.y;
      wet_exact = is_whole wet s.x;
      dry_exact = is_whole dry s.y;
      signal_exact = is_whole (pos r) (omega (arith, s.m));
    }
of_sample kind (Answer.Refused number) f = (refusal_kept (record_with kind (Answer.Refused number)) f.suits.0).0
of_sample kind Answer.Done f = rw f.suits.0
of_sample kind (Answer.Zeroed q) f = rw f.suits
of_sample kind (Answer.Spanned s) f = rw f.suits
of_sample kind (Answer.Area n area) f = rw f.suits

of_area : (kind : ℕ) (a : Answer) → Fit kind a → GivenAsArea a (host_area (record_with kind a))
unfolding host_area
of_area kind (Answer.Area n area) f =
    let s = f.small in
    record { is = area_kept (record_with kind (Answer.Area n area)) refl f.suits s.x; exact = is_whole area s.x }
of_area kind (Answer.Refused number) f = (refusal_kept (record_with kind (Answer.Refused number)) f.suits.0).1
of_area kind Answer.Done f = rw f.suits.1
of_area kind (Answer.Zeroed q) f = rw f.suits
of_area kind (Answer.Spanned s) f = rw f.suits
of_area kind (Answer.Reading r wet dry) f = rw f.suits

-- ---- from the bytes that are lent
module _ (file old : List ℕ) (are : AreBytes file) (w : well_formed file ≡ true) (h : 24 * event_count file ≤ length old)
    {status written : ℕ} {out : List ℕ} (f : FillsAs Form.Records file old status written out)
    (i : ℕ) (l : Line) (is : LineIs file i l) (n : ℕ) (k : 24 ≤ n) where
  abbrev lent : List ℕ
  lent = take n (drop (24 * i) out)

  long : 24 ≤ length lent
  long =
      rw (length-take, length-drop, length_output file old w h f)
      (omega (arith, line_below file i l is))

  stands : answer_at lent 0 ≡ record_of_line l
  stands = rw (take-take 24 n (drop (24 * i) out) k) (line_read file old w h f i l is are)

  sample_in : host_sample_in lent ≡ host_sample (record_of_line l)
  unfolding host_sample_in
  sample_in = rw (le-leb 24 _ long) (ap host_sample stands)

  area_in : host_area_in lent ≡ host_area (record_of_line l)
  unfolding host_area_in
  area_in = rw (le-leb 24 _ long) (ap host_area stands)

pub every_reading : EveryReading
every_reading file old are w h status written out f i l is n k =
    rw (sample_in file old are w h f i l is n k) (of_sample _ l.answer (line_fit file i l is))

pub every_area : EveryArea
every_area file old are w h status written out f i l is n k =
    rw (area_in file old are w h f i l is n k) (of_area _ l.answer (line_fit file i l is))
