-- Hint and grow keep a plan accepted, if no sum is too large. Assumes nothing.
use Rattle.std.proofs.Common.{◌≡◌, ℕ, ◌+◌, ◌≤◌, min, Bool, true, false, cond, ◌&&◌, ◌||◌, eqb, leb, List, [], ◌∷◌, length, Some, None, Ok, Option, sym, refl, ap, ◌∙◌, subst, arith}
use Rattle.std.specs.List.{AllZip}
use Rattle.std.proofs.lemmas.Bool.{and_parts, ltb-false, le-leb}
use Rattle.std.proofs.lemmas.Bool.Decides.{nat_tests}
use Rattle.plan.specs.declared.cells.Cell.{Cell}
use Rattle.plan.specs.declared.refusals.Refusal.TheVariants.{Sum}
use Rattle.plan.specs.Kinds.{is_limit, sort_preserving_merge, sort}
use Rattle.plan.specs.Numbers.{max_number}
use Rattle.operators.specs.Answers.{Answers}
use Rattle.checks.specs.Cells.{fields_cell, need_of, limit_bears, aggregate_bears, borne_out, hint_cell}
use Rattle.checks.specs.Accepts.{Accepted}
use Rattle.rows.specs.declared.growing.Phase.{Phase}
use Rattle.rows.specs.declared.growing.TraverseState.{TraverseState}
use Rattle.rows.specs.declared.growing.Turn.{Turn}
use Rattle.rows.specs.declared.growing.Turn.TheVariants.{Keep, Reset, Find, Grow}
use Rattle.rows.specs.declared.growing.Turn.TheVariants.{Apply as ApplyHere}
use Rattle.rows.specs.declared.hinting.Handed.{Handed}
use Rattle.rows.specs.Sums.{too_large}
use Rattle.rows.specs.Grow.{grow_first, applying, ended, applies, turn_by, turn, grow_next, smaller_fetch, with_fetch, applied, grown_cell_by, grown_cell, grown, grown_plan, apply_sum, grow_sum_by, grow_sum, grow_sums_from, grow_sums}
use Rattle.rows.specs.Hint.{takes_hint, with_hint, hinted_cell, hint_sum, handed_on, hint_next_by, hint_next, hinted, hinted_plan, hint_sums_from, hint_sums}
use Rattle.rows.specs.Laws.{StillAccepted}
use Rattle.rows.proofs.Passed.{refused_not, Fields, Hints, passed, accepted}
use Rattle.rows.proofs.Alike.{Alike, length_alike, trees_alike, fit_alike, counted_alike, root_alike}
use Rattle.rows.proofs.HintKeeps.{fields_placed, hinted_hints, hinted_alike}

-- a plan of cells alike, with fields and hints in order, is accepted as before
alike_accepted : (a : Answers) (cs ds : List Cell) → AllZip Alike cs ds → Accepted a cs → Fields a ds → Hints a None ds → StillAccepted a cs ds × (length ds ≡ length cs)
alike_accepted a cs ds alike h fields hints =
    let old = passed a cs h in (
      record {
        accepted = accepted a ds (record { tree = trees_alike cs ds alike 1 old.tree; fit = fit_alike a cs ds alike old.fit; fields = fields; counts = counted_alike a cs ds alike old.counts; hints = hints });
        partitions = root_alike a cs ds alike;
      },
      length_alike cs ds alike,
    )

module _ (a : Answers) where
  -- what is handed down is not too large
  abbrev SmallHanded : Option Handed → Type 0
  SmallHanded None = Unit {0}
  SmallHanded (Some h) = h.hint ≤ max_number

  hint_fields_by : (c : Cell) (h : ℕ) (g : Option ℕ) (b : Bool) → takes_hint a g c ≡ b → h ≤ max_number → fields_cell a c ≡ true → fields_cell a (cond b (with_hint c (Some h)) c) ≡ true
  hint_fields_by c h g true e l f = grind (arith, nat_tests)
  hint_fields_by c h g false e l f = f

  hint_fields : (s : Option Handed) (c : Cell) → SmallHanded s → fields_cell a c ≡ true → fields_cell a (hinted_cell a s c) ≡ true
  hint_fields None c l f = f
  hint_fields (Some h) c l f = hint_fields_by c h.hint h.group (takes_hint a h.group c) refl l f

  on_small_by : (h : ℕ) (g : Option ℕ) (b : Bool) → h ≤ max_number → SmallHanded (cond b (Some (record { hint = h; group = g })) None)
  on_small_by h g true l = l
  on_small_by h g false l = tt

  on_small : (s : Option Handed) (c : Cell) → SmallHanded s → SmallHanded (handed_on a s c)
  on_small None c l = tt
  on_small (Some h) c l = on_small_by h.hint (Some (a.group c.parameter)) (takes_hint a h.group c) l

  next_small : (sum : Option ℕ) (on : Option Handed) → too_large sum ≡ false → SmallHanded on → SmallHanded (hint_next_by sum on)
  next_small None on e l = l
  next_small (Some n) on e l = ltb-false max_number n e

  hinted_fields : (cs : List Cell) (s : Option Handed) (at : ℕ) → SmallHanded s → hint_sums_from at cs ≡ Ok tt → Fields a cs → Fields a (hinted a s cs)
  unfolding hinted hint_sums_from
  hinted_fields [] s at l e f = tt
  hinted_fields (c ∷ cs) s at l e f =
      let sums = refused_not (too_large (hint_sum c)) Sum at (hint_sums_from (at + 1) cs) tt e in
      (hint_fields s c l f.0, hinted_fields cs (hint_next a s c) (at + 1) (next_small (hint_sum c) (handed_on a s c) sums.0 (on_small s c l)) sums.1 f.1)

  pub hint_keeps_accepted : (cs : List Cell) → Accepted a cs → hint_sums cs ≡ Ok tt → StillAccepted a cs (hinted_plan a cs) × (length (hinted_plan a cs) ≡ length cs)
  hint_keeps_accepted cs h sums =
      let old = passed a cs h in
      alike_accepted a cs (hinted_plan a cs) (hinted_alike a cs None) h (hinted_fields cs None 0 tt sums old.fields) (hinted_hints a cs None None None refl (fields_placed a cs old.fields) old.hints)

  applied_alike : (s : TraverseState) (l : Option ℕ) (c : Cell) → Alike c (applied s l c)
  applied_alike s None c = (refl, refl, refl)
  applied_alike s (Some l) c = (refl, refl, refl)

  grow_alike : (t : Turn) (s : TraverseState) (c : Cell) → Alike c (grown_cell_by t s c)
  grow_alike Keep s c = (refl, refl, refl)
  grow_alike Reset s c = (refl, refl, refl)
  grow_alike Find s c = (refl, refl, refl)
  grow_alike Grow s c = (refl, refl, refl)
  grow_alike ApplyHere s c = applied_alike s s.limit c

  pub grown_alike : (cs : List Cell) (s : TraverseState) → AllZip Alike cs (grown a s cs)
  unfolding grown
  grown_alike [] s = tt
  grown_alike (c ∷ cs) s = (grow_alike (turn a s c) s c, grown_alike cs (grow_next a s c))

  -- a limit is put on a sort or a merge
  abbrev PutOn : Turn → Cell → Type 0
  PutOn Keep c = Unit {0}
  PutOn Reset c = Unit {0}
  PutOn Find c = Unit {0}
  PutOn Grow c = Unit {0}
  PutOn ApplyHere c = (eqb c.kind sort || eqb c.kind sort_preserving_merge) ≡ true

  put_on_by : (p : Phase) (c : Cell) (e f d w z t : Bool) → applies p c.kind ≡ z → PutOn (turn_by e f d w z t) c
  put_on_by p c true f d w z t h = tt
  put_on_by p c false true d w z t h = tt
  put_on_by p c false false true w z t h = tt
  put_on_by p c false false false true z t h = tt
  put_on_by p c false false false false true t h = (and_parts (applying p) (eqb c.kind sort || eqb c.kind sort_preserving_merge) h).1
  put_on_by p c false false false false false true h = tt
  put_on_by p c false false false false false false h = tt

  put_on : (s : TraverseState) (c : Cell) → PutOn (turn a s c) c
  put_on s c = put_on_by s.phase c (ended s.phase) _ _ _ (applies s.phase c.kind) _ refl

  smaller_small : (f : Option ℕ) (n : ℕ) → n ≤ max_number → leb (smaller_fetch f n) max_number ≡ true
  smaller_small None n l = le-leb n max_number l
  smaller_small (Some f) n l = le-leb (min f n) max_number (omega arith)

  applied_fields : (s : TraverseState) (l : Option ℕ) (c : Cell) → (eqb c.kind sort || eqb c.kind sort_preserving_merge) ≡ true → too_large (apply_sum s l) ≡ false → fields_cell a c ≡ true → fields_cell a (applied s l c) ≡ true
  applied_fields s None c k e f = f
  applied_fields s (Some l) c k e f =
      let few = smaller_small c.fetch (l + s.lookahead) (ltb-false max_number (l + s.lookahead) e) in
      by_number (smaller_fetch c.fetch (l + s.lookahead)) few
    where
      by_number : (n : ℕ) → leb n max_number ≡ true → fields_cell a (with_fetch c (Some n)) ≡ true
      by_number n few = grind (arith, nat_tests)

  grow_fields : (t : Turn) (s : TraverseState) (c : Cell) → PutOn t c → too_large (grow_sum_by t a s c) ≡ false → fields_cell a c ≡ true → fields_cell a (grown_cell_by t s c) ≡ true
  grow_fields Keep s c k e f = f
  grow_fields Reset s c k e f = f
  grow_fields Find s c k e f = f
  grow_fields Grow s c k e f = f
  grow_fields ApplyHere s c k e f = applied_fields s s.limit c k e f

  grown_fields : (cs : List Cell) (s : TraverseState) (at : ℕ) → grow_sums_from a s at cs ≡ Ok tt → Fields a cs → Fields a (grown a s cs)
  unfolding grown grow_sums_from
  grown_fields [] s at e f = tt
  grown_fields (c ∷ cs) s at e f =
      let sums = refused_not (too_large (grow_sum a s c)) Sum at (grow_sums_from a (grow_next a s c) (at + 1) cs) tt e in
      (grow_fields (turn a s c) s c (put_on s c) sums.0 f.0, grown_fields cs (grow_next a s c) (at + 1) sums.1 f.1)

  -- both cells bear out the same hints
  abbrev BearAlike : Option Cell → Option Cell → Type 0
  BearAlike u v = (p h : ℕ) → borne_out a u p h ≡ borne_out a v p h

  no_limit_bears : (c : Cell) (f : Option ℕ) (h : ℕ) → is_limit c.kind ≡ false → limit_bears c f h ≡ false
  no_limit_bears c None h e = refl
  no_limit_bears c (Some f) h e = ap (λ b. b && leb (need_of c.skip f) h) e

  applied_bears : (s : TraverseState) (l : Option ℕ) (c : Cell) → (eqb c.kind sort || eqb c.kind sort_preserving_merge) ≡ true → BearAlike (Some c) (Some (applied s l c))
  applied_bears s None c k p h = refl
  applied_bears s (Some l) c k p h =
      let lim : is_limit c.kind ≡ false = grind (arith, nat_tests) in
      let f = Some (smaller_fetch c.fetch (l + s.lookahead)) in
      ap (λ b. b || aggregate_bears a c c.hint p h) (no_limit_bears c c.fetch h lim ∙ sym (no_limit_bears (with_fetch c f) f h lim))

  grow_bears : (t : Turn) (s : TraverseState) (c : Cell) → PutOn t c → BearAlike (Some c) (Some (grown_cell_by t s c))
  grow_bears Keep s c k p h = refl
  grow_bears Reset s c k p h = refl
  grow_bears Find s c k p h = refl
  grow_bears Grow s c k p h = refl
  grow_bears ApplyHere s c k p h = applied_bears s s.limit c k p h

  hint_borne : (u v : Option Cell) (c : Cell) (o : Option ℕ) → BearAlike u v → hint_cell a u c o ≡ true → hint_cell a v c o ≡ true
  hint_borne u v c None e h = refl
  hint_borne u v c (Some n) e h = subst (λ b. (a.plain_distinct c.parameter && b) ≡ true) (e c.parameter n) h

  applied_hint : (s : TraverseState) (l : Option ℕ) (v : Option Cell) (c : Cell) → hint_cell a v c c.hint ≡ true → hint_cell a v (applied s l c) (applied s l c).hint ≡ true
  applied_hint s None v c h = h
  applied_hint s (Some l) v c h = by_hint c.hint h
    where
      by_hint : (o : Option ℕ) → hint_cell a v c o ≡ true → hint_cell a v (with_fetch c (Some (smaller_fetch c.fetch (l + s.lookahead)))) o ≡ true
      by_hint None h = refl
      by_hint (Some n) h = h

  grow_hint : (t : Turn) (s : TraverseState) (v : Option Cell) (c : Cell) → hint_cell a v c c.hint ≡ true → hint_cell a v (grown_cell_by t s c) (grown_cell_by t s c).hint ≡ true
  grow_hint Keep s v c h = h
  grow_hint Reset s v c h = h
  grow_hint Find s v c h = h
  grow_hint Grow s v c h = h
  grow_hint ApplyHere s v c h = applied_hint s s.limit v c h

  grown_hints : (cs : List Cell) (s : TraverseState) (u v : Option Cell) → BearAlike u v → Hints a u cs → Hints a v (grown a s cs)
  unfolding grown
  grown_hints [] s u v e h = tt
  grown_hints (c ∷ cs) s u v e h =
      (grow_hint (turn a s c) s v c (hint_borne u v c c.hint e h.0), grown_hints cs (grow_next a s c) (Some c) (Some (grown_cell a s c)) (grow_bears (turn a s c) s c (put_on s c)) h.1)

  pub grow_keeps_accepted : (cs : List Cell) → Accepted a cs → grow_sums a cs ≡ Ok tt → StillAccepted a cs (grown_plan a cs) × (length (grown_plan a cs) ≡ length cs)
  grow_keeps_accepted cs h sums =
      let old = passed a cs h in
      alike_accepted a cs (grown_plan a cs) (grown_alike cs grow_first) h (grown_fields cs grow_first 0 sums old.fields) (grown_hints cs grow_first None None (λ p k. refl) old.hints)
