-- What a limit leaves of partitions. Assumes nothing.
use Rattle.std.proofs.Common.{◌≡◌, ℕ, ◌+◌, ◌-◌, List, ◌++◌, map, take, drop, Some, None, Option, sym, refl, ap, ◌∙◌, arith}
use mathlib.Core.List.{map-append}
use Rattle.std.proofs.lemmas.List.{take-take, drop-drop, take-map, drop-map}
use Rattle.operators.specs.Rows.{Row, Partitions, cut}
use Rattle.operators.specs.Rules.{each}
use Rattle.rows.proofs.Agreeing.{map-map, map_same, map_none, map_each, take_twice, drop_of_take, agree_limit}
use Rattle.sinks.specs.Sink.{combined_fetch}

-- each partition without its first s rows, and of those what a fetch keeps
abbrev pub cutted : ℕ → Option ℕ → Partitions → Partitions
cutted s f z = map (cut f) (map (drop s) z)

pub cutted_same : (z : Partitions) → cutted 0 None z ≡ z
cutted_same z = map-map (cut None) (drop 0) z ∙ map_none (λ x. x) (λ x. refl) z

pub cutted_fetch : (f : Option ℕ) (z : Partitions) → cutted 0 f z ≡ map (cut f) z
cutted_fetch f z = ap (map (cut f)) (map_none (drop 0) (λ x. refl) z)

-- an outer limit over an inner one is one limit
limits_combine : (s : ℕ) (f : Option ℕ) (t : ℕ) (g : Option ℕ) (xs : List Row) → cut f (drop s (cut g (drop t xs))) ≡ cut (combined_fetch s f g) (drop (s + t) xs)
limits_combine s None t None xs = drop-drop s t xs ∙ ap (λ k. drop k xs) (omega arith)
limits_combine s None t (Some g) xs = drop_of_take s g (drop t xs) ∙ ap (take (g - s)) (drop-drop s t xs ∙ ap (λ k. drop k xs) (omega arith))
limits_combine s (Some f) t None xs = ap (take f) (drop-drop s t xs ∙ ap (λ k. drop k xs) (omega arith))
limits_combine s (Some f) t (Some g) xs =
    ap (take f) (drop_of_take s g (drop t xs) ∙ ap (take (g - s)) (drop-drop s t xs ∙ ap (λ k. drop k xs) (omega arith))) ∙ take_twice f (g - s) (drop (s + t) xs)

pub cutted_cutted : (s : ℕ) (f : Option ℕ) (t : ℕ) (g : Option ℕ) (z : Partitions) → cutted s f (cutted t g z) ≡ cutted (s + t) (combined_fetch s f g) z
cutted_cutted s f t g z =
    ap (λ y. map (cut f) (map (drop s) y)) (map-map (cut g) (drop t) z)
    ∙ ap (map (cut f)) (map-map (drop s) (λ x. cut g (drop t x)) z)
    ∙ map-map (cut f) (λ x. drop s (cut g (drop t x))) z
    ∙ map_same (λ x. cut f (drop s (cut g (drop t x)))) (λ x. cut (combined_fetch s f g) (drop (s + t) x)) (limits_combine s f t g) z
    ∙ sym (map-map (cut (combined_fetch s f g)) (drop (s + t)) z)

pub cutted_append : (s : ℕ) (f : Option ℕ) (x y : Partitions) → cutted s f x ++ cutted s f y ≡ cutted s f (x ++ y)
cutted_append s f x y = sym (ap (map (cut f)) (map-append (drop s) x y) ∙ map-append (cut f) (map (drop s) x) (map (drop s) y))

cut_map : (f : Option ℕ) (g : Row → Row) (xs : List Row) → cut f (map g xs) ≡ map g (cut f xs)
cut_map None g xs = refl
cut_map (Some n) g xs = take-map g n xs

-- each row from the row at its place: before a limit or after it
pub cutted_rows : (s : ℕ) (f : Option ℕ) (g : ℕ → Row → Row) (z : Partitions) → cutted s f (each (λ i. map (g i)) 0 z) ≡ each (λ i. map (g i)) 0 (cutted s f z)
cutted_rows s f g z =
    ap (map (cut f)) (map_each (drop s) (drop s) (λ i. map (g i)) (λ i. map (g i)) (λ i x. drop-map (g i) s x) 0 z)
    ∙ map_each (cut f) (cut f) (λ i. map (g i)) (λ i. map (g i)) (λ i x. cut_map f (g i) x) 0 (map (drop s) z)

pub take_again : (n : ℕ) (z : Partitions) → map (take n) (map (take n) z) ≡ map (take n) z
take_again n z = map-map (take n) (take n) z ∙ map_same (λ x. take n (take n x)) (take n) (λ x. take-take n n x (omega arith)) z

-- a limit sees no more than the total of its fetch and skip
pub cutted_total : (s n : ℕ) (z : Partitions) → cutted s (Some n) (map (take (n + s)) z) ≡ cutted s (Some n) z
cutted_total s n z = agree_limit s n (map (take (n + s)) z) z (ap (λ k. map (take k) (map (take (n + s)) z)) (omega arith) ∙ take_again (n + s) z ∙ ap (λ k. map (take k) z) (omega arith))
