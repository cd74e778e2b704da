use Rattle.std.proofs.Common.{◌≡◌, ℕ, ◌+◌, ◌<◌, List, [], ◌∷◌, ◌++◌, length, get_or, take, set, sym, ap, ◌∙◌, subst, arith, rules}
use Rattle.std.specs.List.{AllZip}
use Rattle.std.proofs.lemmas.List.{take_all, take_min, take_more, take_more_set}
use Rattle.std.proofs.lemmas.Slice.Zip.{all_zipped_more}
use Rattle.driver.proofs.exports.read_rows.Goals as goal

one_more : {A B : Type 0} (R : A → B → Type 0) (rows : List A) (read : List B) (i : ℕ) (row : A) (x : B) → i < length rows → i < length read → row ≡ get_or rows i row → R row x
    → AllZip R (take i rows) (take i read) → AllZip R (take (i + 1) rows) (take (i + 1) (set read i x))
one_more {A} R rows read i row x there within is gives so_far =
    let rows_more : take (i + 1) rows ≡ take i rows ++ row ∷ [] = take_more rows i row there ∙ ap (λ (r : A). take i rows ++ r ∷ []) (sym is) in
    subst (λ (xs : List A). AllZip R xs (take (i + 1) (set read i x))) (sym rows_more)
    (subst (AllZip R (take i rows ++ row ∷ [])) (sym (take_more_set read i x within)) (all_zipped_more R (take i rows) (take i read) row x so_far gives))

pub loop-place-preserved : goal.loop-place-preserved
loop-place-preserved g c =
    one_more g.T.From.from_gives (take c.min-count.result c.args.rows.now) c.loop-place.read c.loop-place.place c.row-item.result c.from.result (omega arith) (search rules) c.row-item.is c.from.ensures c.loop-place.invariant

pub returns-clause-rows : goal.returns-clause-rows
returns-clause-rows g c =
    let rows = c.args.rows.now in
    let count = c.min-count.result in
    let long : length (take count rows) ≡ count = search rules in
    let all : c.loop-place.place ≡ count = omega arith in
    let ends : take c.loop-place.place (take count rows) ≡ take (length c.args.read.now) rows = take_all c.loop-place.place (take count rows) (omega arith) ∙ ap (λ (n : ℕ). take n rows) c.min-count.ensures ∙ take_min (length c.args.read.now) rows in
    coe 0 1 (i. AllZip g.T.From.from_gives (ends i) (take (all i) c.loop-place.read)) c.loop-place.invariant
