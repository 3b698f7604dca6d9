-- A writer puts what comes to stand in its buffer, one that puts nothing is as it was, and one piece after the other is both at once. Assumes nothing.
use Prim.Native.Nat.{ℕ, ◌≤◌}
use mathlib.Core.List.{List, [], ◌++◌}
use mathlib.Core.Path.{◌≡◌, refl, ◌∙◌}
use lib.ListN.{length}
use Rattle.layout.specs.Lent.{Puts}
use Rattle.layout.proofs.Lent.{puts_none, puts_both, puts_length}
use Rattle.text.specs.declared.writer.Writer.{Writer}
use Rattle.text.specs.Writing.{Writes}

pub writes_by : {a b : Writer} {bytes : List ℕ} → b.out.ghost_name ≡ a.out.ghost_name → Puts a.out.now a.at bytes b.out.now b.at → Writes a bytes b
writes_by e p = record { same_buffer = e; same_length = puts_length p; puts = p }

pub writes_none : (w : Writer) → w.at ≤ length w.out.now → Writes w [] w
writes_none w h = writes_by refl (puts_none w.out.now w.at h)

pub writes_both : {a b c : Writer} {bytes more : List ℕ} → Writes a bytes b → Writes b more c → Writes a (bytes ++ more) c
writes_both p q =
    record {
      same_buffer = q.same_buffer ∙ p.same_buffer;
      same_length = q.same_length ∙ p.same_length;
      puts = puts_both p.puts q.puts;
    }
