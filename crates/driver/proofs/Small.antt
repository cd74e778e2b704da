-- Expressions with small numbers, and windows cut from them. Assumes nothing.
use Rattle.std.proofs.Common.{◌≡◌, ℕ, zero, suc, ◌+◌, ◌-◌, ◌≤◌, min, Bool, true, false, cond, ◌&&◌, eqb, leb, List, [], ◌∷◌, map, length, take, drop, sym, refl, subst, arith, le-leb, leb-true}
use Rattle.std.specs.List.{slice_range}
use Rattle.std.proofs.lemmas.List.{length-take, length-drop}
use Rattle.std.proofs.lemmas.Bool.{and_parts, and_from}
use Rattle.plan.specs.Numbers.{max_number}
use Rattle.operators.specs.declared.answers.LimitEffect.TheVariants.{None, Unknown, Relative, Absolute}
use Rattle.operators.specs.declared.answers.FrameBound.TheVariants.{Preceding, CurrentRow, Following, Other}
use Rattle.operators.specs.declared.answers.WindowExpr.{WindowExpr}
use Rattle.operators.specs.Windows.{number_in, following_in, Small, WindowSized}
use Rattle.driver.specs.declared.row_types.ExprRow.{ExprRow}
use Rattle.driver.specs.Reading.{expr_of}
use Rattle.driver.specs.Tables.{all_small, sized}

small_part : (width from : ℕ) (es : List WindowExpr) → all_small es ≡ true → Small (take width (drop from es))
small_part zero zero es h = tt
small_part zero (suc from) es h = tt
small_part (suc width) zero [] h = tt
small_part (suc width) (suc from) [] h = tt
small_part (suc width) zero (e ∷ es) h =
    let both = leb (number_in e.effect) max_number && leb (following_in e.end_bound) max_number in
    let p = and_parts both (all_small es) h in
    let q = and_parts (leb (number_in e.effect) max_number) (leb (following_in e.end_bound) max_number) p.0 in
    (leb-true (number_in e.effect) max_number q.0, leb-true (following_in e.end_bound) max_number q.1, small_part width zero es p.1)
small_part (suc width) (suc from) (e ∷ es) h =
    let both = leb (number_in e.effect) max_number && leb (following_in e.end_bound) max_number in
    small_part (suc width) from es (and_parts both (all_small es) h).1

-- a window that lies within the expressions
pub window_sized : (es : List WindowExpr) (width from : ℕ) → sized es width ≡ true → from + width ≤ length es → WindowSized (slice_range es from (from + width))
window_sized es width from h fits =
    let p = and_parts (leb 1 width && leb width 16) (all_small es) h in
    let q = and_parts (leb 1 width) (leb width 16) p.0 in
    let some = leb-true 1 width q.0 in
    let few = leb-true width 16 q.1 in
    let long = length-take width (drop from es) in
    let left = length-drop from es in
    let whole : from + width - from ≡ width = omega arith in
    subst (λ (n : ℕ). WindowSized (take n (drop from es))) (sym whole) (record { some = omega arith; few = omega arith; small = small_part width from es p.1 })

-- numbers that are read are cut down

cut_effect : (a b c : Bool) (n : ℕ) → n ≤ max_number → leb (number_in (cond a None (cond b (Relative n) (cond c (Absolute n) Unknown)))) max_number ≡ true
cut_effect true b c n h = refl
cut_effect false true c n h = le-leb n max_number h
cut_effect false false true n h = le-leb n max_number h
cut_effect false false false n h = refl

cut_bound : (a b c : Bool) (n : ℕ) → n ≤ max_number → leb (following_in (cond a Preceding (cond b CurrentRow (cond c (Following n) Other)))) max_number ≡ true
cut_bound true b c n h = refl
cut_bound false true c n h = refl
cut_bound false false true n h = le-leb n max_number h
cut_bound false false false n h = refl

read_small : (rows : List ExprRow) → all_small (map expr_of rows) ≡ true
read_small [] = refl
read_small (r ∷ rs) =
    let effect = cut_effect (eqb r.effect 0) (eqb r.effect 2) (eqb r.effect 3) (min r.effect_number max_number) (omega arith) in
    let bound = cut_bound (eqb r.end 0) (eqb r.end 1) (eqb r.end 2) (min r.end_number max_number) (omega arith) in
    and_from _ _ (and_from _ _ effect bound) (read_small rs)

pub read_sized : (rows : List ExprRow) (width : ℕ) → 1 ≤ width → width ≤ 16 → sized (map expr_of rows) width ≡ true
read_sized rows width some few = and_from _ _ (and_from _ _ (le-leb 1 width some) (le-leb width 16 few)) (read_small rows)
