-- A set shows the rules for all stored data, and there are stored data for every choice of rows at its sources. Assumes nothing.
use Rattle.std.proofs.Common.{◌≡◌, ℕ, ◌≤◌, Bool, true, false, cond, ◌&&◌, eqb, leb, List, [], ◌∷◌, map, length, replicate, sym, refl, ap, ◌∙◌, subst, append-nil, add-zero, arith}
use Rattle.std.proofs.lemmas.List.{length-map, length-replicate, nil_from_length}
use Rattle.std.proofs.lemmas.Bool.{cond_both}
use Rattle.std.proofs.lemmas.Bool.Decides.{nat_tests}
use Rattle.plan.specs.Kinds.{placeholder_row, aggregate, first_operator}
use Rattle.operators.specs.declared.answers.LimitsPass.TheVariants.{RowForRow}
use Rattle.operators.specs.Answers.{Answers}
use Rattle.operators.specs.Questions.{fits_of, passes, passes_limits, partitions_of, empty_of}
use Rattle.operators.specs.Rows.{Row, Partitions, concat}
use Rattle.operators.specs.Rules.{Agree, AtMost, sum, all_true, KnownTrue, keys, Begins, row_for_row, RulesAt, Passing, Rules}
use Rattle.operators.specs.Stored.{InPartitions, Stored, meaning_of, Shows}
use Rattle.operators.proofs.Lists.{length-concat, concat_empty, none_empty, each_self, each_nothing, begins_whole}

-- what a set's answers have to be, that it shows the rules
pub record Sound (a : Answers) (source : ℕ → Bool) : Type 0 where
  pub passing : (k p : ℕ) → leb first_operator k ≡ true → a.limits_pass k p ≡ RowForRow → Passing a k p
  pub not_always : (k p : ℕ) → leb first_operator k ≡ true → a.limits_pass k p ≡ RowForRow → empty_of a k p false ≡ false
  pub source_high : (k : ℕ) → source k ≡ true → first_operator ≤ k
  pub source_alone : (k p n : ℕ) → source k ≡ true → fits_of a k p n ≡ true → n ≡ 0
  pub source_stops : (k p : ℕ) → source k ≡ true → passes_limits a k p ≡ false
  pub source_known : (k p : ℕ) → source k ≡ true → empty_of a k p true ≡ false

module _ (a : Answers) (source : ℕ → Bool) (sound : Sound a source) where
  -- a source obeys the rules, whatever its rows
  source_rules : (key : ℕ → Row → Row) (rows : ℕ → ℕ → Partitions) → InPartitions a source rows → (k p : ℕ) → source k ≡ true → RulesAt a key k p (λ b h cs. rows k p)
  source_rules key rows right k p e = record {
    counted = λ by b h cs fit.
        let none = nil_from_length cs (sound.source_alone k p (length cs) e fit) in
        let there = right k p e in
        grind (arith, nat_tests);
    one_row = λ is. absurd (let high = sound.source_high k e in omega arith);
    each_row = λ passes. absurd (let stops = sound.source_stops k p e in grind (arith, nat_tests));
    empty = λ by b h cs es fit l known is.
        let none = nil_from_length es (l ∙ sound.source_alone k p (length cs) e fit) in
        absurd (let known = sound.source_known k p e in grind (arith, nat_tests));
    merge = λ is. absurd (let high = sound.source_high k e in omega arith);
    window = λ is. absurd (let high = sound.source_high k e in omega arith);
    distinct = λ is plain. absurd (let high = sound.source_high k e in omega arith);
    mark = λ b b' h cs fit. refl;
  }

  shown : (s : Stored a source) → Rules a (meaning_of s)
  shown s = record {
    passing = sound.passing;
    key = s.key;
    key_key = s.key_key;
    at = λ k p. cond_both (source k) (λ b h cs. s.rows k p) (s.makes k p) (RulesAt a s.key k p) (source_rules s.key s.rows s.in_partitions k p) (s.allowed k p);
  }

  -- a making for every kind: one row, the rows themselves, each row once, or nothing
  abbrev plain_by : (row passes distinct : Bool) → ℕ → ℕ → List Partitions → Partitions
  plain_by true passes distinct k p cs = ([] ∷ []) ∷ []
  plain_by false true distinct k p cs = concat cs
  plain_by false false true k p cs = map (keys (λ r. r)) (concat cs)
  plain_by false false false k p cs = replicate (partitions_of a k p (sum (map length cs))) []

  abbrev plain : ℕ → ℕ → List Partitions → Partitions
  plain k p = plain_by (eqb k placeholder_row) (row_for_row a k p) (eqb k aggregate && a.plain_distinct p) k p

  -- it has its children's partitions, and is known empty only if they are
  rows_sum : (k p total : ℕ) → row_for_row a k p ≡ true → partitions_of a k p total ≡ total
  rows_sum k p total e = let adds = sound.passing k p in grind (arith, nat_tests)

  rows_empty : (k p : ℕ) (all : Bool) → row_for_row a k p ≡ true → empty_of a k p all ≡ true → all ≡ true
  rows_empty k p true e h = refl
  rows_empty k p false e h = let not = sound.not_always k p in grind (arith, nat_tests)

  not_placeholder : (k p : ℕ) → row_for_row a k p ≡ true → eqb k placeholder_row ≡ false
  not_placeholder k p e = grind (arith, nat_tests)

  plain_counts : (row pass dis : Bool) (k p : ℕ) (cs : List Partitions) → eqb k placeholder_row ≡ row → row_for_row a k p ≡ pass → (eqb k aggregate && a.plain_distinct p) ≡ dis → length (plain_by row pass dis k p cs) ≡ partitions_of a k p (sum (map length cs))
  plain_counts true pass dis k p cs r s d = grind (arith, nat_tests)
  plain_counts false true dis k p cs r s d = length-concat cs ∙ sym (rows_sum k p (sum (map length cs)) s)
  plain_counts false false true k p cs r s d = length-map (concat cs) (keys (λ r. r)) ∙ (let joined = length-concat cs in grind (arith, nat_tests))
  plain_counts false false false k p cs r s d = length-replicate _ _

  plain_empty : (row pass dis : Bool) (k p : ℕ) (cs : List Partitions) (es : List Bool) → eqb k placeholder_row ≡ row → row_for_row a k p ≡ pass → (eqb k aggregate && a.plain_distinct p) ≡ dis → length es ≡ length cs → KnownTrue es cs → empty_of a k p (all_true es) ≡ true → AtMost 0 (plain_by row pass dis k p cs)
  plain_empty true pass dis k p cs es r s d l known is = grind (arith, nat_tests)
  plain_empty false true dis k p cs es r s d l known is = concat_empty es cs l known (rows_empty k p (all_true es) s is)
  plain_empty false false true k p cs es r s d l known is = grind (arith, nat_tests)
  plain_empty false false false k p cs es r s d l known is = none_empty _

  plain_rules : (k p : ℕ) → RulesAt a (λ g r. r) k p (λ b h. plain k p)
  plain_rules k p = record {
    counted = λ by b h cs fit. plain_counts (eqb k placeholder_row) (row_for_row a k p) (eqb k aggregate && a.plain_distinct p) k p cs refl refl refl;
    one_row = λ is b h fit. ([], ap (λ j. plain j p []) is);
    each_row = λ e b h. (
      (λ ns i r. r),
      λ cs fit.
          let not_row : eqb k placeholder_row ≡ false = not_placeholder k p e in
          (λ i. plain_by (not_row i) (e i) (eqb k aggregate && a.plain_distinct p) k p cs) ∙ sym (each_self 0 (concat cs)),
    );
    empty = λ by b h cs es fit l known is. plain_empty (eqb k placeholder_row) (row_for_row a k p) (eqb k aggregate && a.plain_distinct p) k p cs es refl refl refl l known is;
    merge = λ is b h n ps qs fit agree. subst (λ j. Agree n (plain j p (ps ∷ [])) (plain j p (qs ∷ []))) (sym is) refl;
    window = λ is b h fit. (
      (λ i rows. []),
      (λ ps. ap (λ j. plain j p (ps ∷ [])) is ∙ ap (λ n. replicate n []) (add-zero (length ps)) ∙ sym (each_nothing 0 ps)),
      λ reach i n xs ys e. refl,
    );
    distinct = λ is pl b ps fit. (
      keyed is pl ps,
      λ h. subst (Begins h (map (keys (λ r. r)) ps)) (sym (keyed is pl ps)) (begins_whole h (map (keys (λ r. r)) ps)),
    );
    mark = λ b b' h cs fit. refl;
  }
    where
      keyed : k ≡ aggregate → a.plain_distinct p ≡ true → (ps : Partitions) → plain k p (ps ∷ []) ≡ map (keys (λ r. r)) ps
      keyed is pl ps = let joined = append-nil ps in grind (arith, nat_tests)

  pub shows : Shows a source
  shows = record {
    shown = shown;
    rows_there = λ s k p b h e. ap (λ t. cond t (λ b h cs. s.rows k p) (s.makes k p) b h []) e;
    stored = λ rows right. (record { rows = rows; in_partitions = right; key = λ g r. r; key_key = λ g r. refl; makes = λ k p b h. plain k p; allowed = λ k p e. plain_rules k p }, refl);
  }
