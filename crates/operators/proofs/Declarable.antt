-- A set that holds declarations shows the rules, if none of them is refused. Assumes nothing.
use Rattle.std.proofs.Common.{◌≡◌, ℕ, ◌+◌, ◌≤◌, Bool, true, false, cond, eqb, ltb, List, [], ◌∷◌, ◌++◌, length, is_ok, Some, None, Option, Err, Result, refl, ap, subst, arith}
use Rattle.std.specs.Option.{option_map_or}
use Rattle.std.proofs.lemmas.Bool.{cond_both, false≢true, eqb-true, leb-true, le-ltb}
use Rattle.std.proofs.lemmas.Bool.Decides.{nat_tests}
use Rattle.plan.specs.Kinds.{first_operator}
use Rattle.plan.specs.declared.refusals.Fault.{Fault}
use Rattle.operators.specs.declared.answers.LimitsPass.TheVariants.{No}
use Rattle.operators.specs.declared.answers.PartitionCount.TheVariants.{Sum}
use Rattle.operators.specs.declared.declarations.Shape.{Shape}
use Rattle.operators.specs.declared.declarations.Shape.TheVariants.{Source, RowForRow, EachPartition, Gathering}
use Rattle.operators.specs.declared.declarations.Declaration.{Declaration}
use Rattle.operators.specs.Questions.{passes, empty_of}
use Rattle.operators.specs.Stored.{Shows}
use Rattle.operators.specs.Declarations.{max_declarations, look_up, is_row_for_row, is_refused, declared_from, declared_answer, declared_answers, declared_source, is_source, fits_shape, passes_shape, partitions_shape}
use Rattle.operators.proofs.Showing.{shows}

-- a declaration that is not refused is of a kind from 16 on, and takes no fetch where it is row for row
record Good (k : ℕ) (d : Declaration) : Type 0 where
  high : first_operator ≤ k
  no_fetch : is_row_for_row d.shape ≡ true → d.fetch ≡ false

abbrev GoodIn : ℕ → Option Declaration → Type 0
GoodIn k None = Unit {0}
GoodIn k (Some d) = Good k d

not_refused : (earlier : List Declaration) (d : Declaration) → is_refused earlier d ≡ false → Good d.kind d
not_refused earlier d e = record { high = grind (arith, nat_tests); no_fetch = λ row. grind (arith, nat_tests) }

ok_parts : (b : Bool) (e : Fault) (r : Result (Unit {0}) Fault) → is_ok (cond b (Err e) r) ≡ true → (b ≡ false) × (is_ok r ≡ true)
ok_parts true e r ok = absurd (false≢true ok)
ok_parts false e r ok = (refl, ok)

found_good : (earlier : List Declaration) (at : ℕ) (ds : List Declaration) → is_ok (declared_from earlier at ds) ≡ true → (k : ℕ) → GoodIn k (look_up ds k)
found_good earlier at [] ok k = tt
found_good earlier at (d ∷ ds) ok k =
    let parts = ok_parts (is_refused earlier d) _ _ ok in
    cond_both (eqb d.kind k) (Some d) (look_up ds k) (GoodIn k)
    (λ e. subst (λ j. Good j d) (eqb-true d.kind k e) (not_refused earlier d parts.0))
    (λ e. found_good (earlier ++ d ∷ []) (at + 1) ds parts.1 k)

row_shape : (s : Shape) → passes (passes_shape s) ≡ true → s ≡ RowForRow
row_shape (Source n) e = absurd (false≢true e)
row_shape RowForRow e = refl
row_shape EachPartition e = absurd (false≢true e)
row_shape (Gathering n) e = absurd (false≢true e)

source_shape : (s : Shape) → is_source s ≡ true → (n : ℕ) × (s ≡ Source n)
source_shape (Source n) e = (n, refl)
source_shape RowForRow e = absurd (false≢true e)
source_shape EachPartition e = absurd (false≢true e)
source_shape (Gathering n) e = absurd (false≢true e)

module _ (k : ℕ) where
  -- what passes limits does not fit without children, takes no fetch and adds up partitions
  passing : (o : Option Declaration) → GoodIn k o → passes (option_map_or (λ d. passes_shape d.shape) o No) ≡ true → (option_map_or (λ d. fits_shape d.shape 0) o false ≡ false) × (option_map_or (λ d. d.fetch) o false ≡ false) × (option_map_or (λ d. partitions_shape d.shape) o Sum ≡ Sum)
  passing None good e = absurd (false≢true e)
  passing (Some d) good e = let shape = row_shape d.shape e in (ap (λ s. fits_shape s 0) shape, good.no_fetch (ap is_row_for_row shape), ap partitions_shape shape)

  -- a source is of a kind from 16 on, fits without children alone and passes no limits
  source : (o : Option Declaration) → GoodIn k o → option_map_or (λ d. is_source d.shape) o false ≡ true → (first_operator ≤ k) × ((n : ℕ) → option_map_or (λ d. fits_shape d.shape n) o false ≡ eqb n 0) × (passes (option_map_or (λ d. passes_shape d.shape) o No) ≡ false)
  source None good e = absurd (false≢true e)
  source (Some d) good e = let shape = source_shape d.shape e in (good.high, (λ n. ap (λ s. fits_shape s n) shape.1), ap (λ s. passes (passes_shape s)) shape.1)

pub declared_shows : (ds : List Declaration) → is_ok (declared_answer ds) ≡ true → Shows (declared_answers ds) (declared_source ds)
declared_shows ds ok = shows (declared_answers ds) (declared_source ds) (record {
  passing = λ k p high e.
      let found = passing k (look_up ds k) (good k) (ap passes e) in
      let childless = found.0 in
      record { has_children = grind (arith, nat_tests); no_fetch = found.1; adds_up = found.2 };
  not_always = λ k p high e. never k p false (leb-true first_operator k high);
  source_high = λ k e. (source k (look_up ds k) (good k) e).0;
  source_alone = λ k p n e fit. let found = source k (look_up ds k) (good k) e in let high = found.0 in let childless = found.1 n in grind (arith, nat_tests);
  source_stops = λ k p e. let found = source k (look_up ds k) (good k) e in let high = found.0 in let stops = found.2 in grind (arith, nat_tests);
  source_known = λ k p e. never k p true (source k (look_up ds k) (good k) e).0;
})
  where
    good : (k : ℕ) → GoodIn k (look_up ds k)
    good k = found_good [] 0 ds (ok_parts (ltb max_declarations (length ds)) _ _ ok).1 k

    never : (k p : ℕ) (all : Bool) → first_operator ≤ k → empty_of (declared_answers ds) k p all ≡ false
    never k p all high = let low : ltb k first_operator ≡ false = le-ltb k first_operator high in grind (arith, nat_tests)
