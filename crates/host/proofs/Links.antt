-- Links of a chain make one link. Assumes nothing.
use Rattle.std.proofs.Common.{ℕ, List, [], ◌∷◌}
use Rattle.limits.proofs.Keeping.{next_page}
use Rattle.operators.specs.Catalogue.{catalogue}
use Rattle.packed_calls.specs.Laws.{PackedKept}
use Rattle.packed_calls.proofs.Keeping.{any_plan}
use Rattle.host.specs.Host.{Linked, last_of}

next_kept : (x y z : List ℕ) → PackedKept catalogue x y → PackedKept catalogue y z → PackedKept catalogue x z
next_kept x y z p q =
    let first = p.kept in
    let second = any_plan catalogue y z q first.after first.held in
    record {
      before = p.before;
      held = p.held;
      kept = record { after = second.after; held = second.held; pages = λ m rules. next_page catalogue m rules p.before first.after second.after (first.pages m rules) (second.pages m rules) };
    }

pub chains_keep : (bytes next : List ℕ) (more : List (List ℕ)) → Linked bytes (next ∷ more) → PackedKept catalogue bytes (last_of next more)
chains_keep bytes next [] h = h.0
chains_keep bytes next (b ∷ bs) h = next_kept bytes next (last_of b bs) h.0 (chains_keep next b bs h.1)
