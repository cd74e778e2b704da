-- One entry more is blank. Assumes nothing.
use Rattle.std.proofs.Common.{◌≡◌, ℕ, ◌+◌, ◌<◌, List, [], ◌∷◌, ◌++◌, length, get_or, drop, set, replicate, sym, ap, ◌∙◌, le_refl}
use Rattle.std.proofs.lemmas.List.{append_assoc, append-nil, drop_all, drop_more, length-replicate, replicate_more, set_at}

pub wiped_more : {T : Type 0} (xs : List T) (i : ℕ) (b : T) → i < length xs → set (replicate i b ++ drop i xs) i b ≡ replicate (i + 1) b ++ drop (i + 1) xs
wiped_more xs i b h =
    ap (λ t. set (replicate i b ++ t) i b) (drop_more xs i b h) ∙ set_at (replicate i b) (get_or xs i b) (drop (i + 1) xs) b i (length-replicate _ _)
    ∙ sym (append_assoc (replicate i b) (b ∷ []) (drop (i + 1) xs)) ∙ ap (λ t. t ++ drop (i + 1) xs) (replicate_more i b)

pub wiped_all : {T : Type 0} (xs : List T) (i : ℕ) (b : T) → i ≡ length xs → replicate i b ++ drop i xs ≡ replicate (length xs) b
wiped_all xs i b e = ap (λ n. replicate n b ++ drop n xs) e ∙ ap (λ t. replicate (length xs) b ++ t) (drop_all (length xs) xs (le_refl (length xs))) ∙ append-nil _
