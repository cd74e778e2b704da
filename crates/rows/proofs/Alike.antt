-- Cells of the same kinds, child counts and parameters have the same trees, fits, facts and counts. Assumes nothing.
use Rattle.std.proofs.Common.{◌≡◌, ℕ, suc, ◌+◌, ◌-◌, ◌<◌, List, [], ◌∷◌, length, drop, sym, refl, ap, ◌∙◌, subst}
use Rattle.std.specs.List.{AllZip, AllByRecursion}
use Rattle.plan.specs.declared.cells.Cell.{Cell}
use Rattle.operators.specs.Answers.{Answers}
use Rattle.operators.specs.Questions.{fits_of}
use Rattle.checks.specs.declared.facts.Fact.{Fact}
use Rattle.checks.specs.Facts.{head_fact, fact_of, facts, miscounted}
use Rattle.checks.specs.Accepts.{root_partitions}
use Rattle.rows.proofs.Passed.{Trees, Fit, Counted}

abbrev pub Alike : Cell → Cell → Type 0
Alike c d = (c.kind ≡ d.kind) × (c.children ≡ d.children) × (c.parameter ≡ d.parameter)

pub length_alike : (cs ds : List Cell) → AllZip Alike cs ds → length ds ≡ length cs
length_alike [] [] h = refl
length_alike [] (d ∷ ds) h = absurd h
length_alike (c ∷ cs) [] h = absurd h
length_alike (c ∷ cs) (d ∷ ds) h = ap suc (length_alike cs ds h.1)

pub kinds_alike : (most : ℕ) (cs ds : List Cell) → AllZip Alike cs ds → AllByRecursion (λ c. c.kind < most) cs → AllByRecursion (λ c. c.kind < most) ds
kinds_alike most [] [] h k = tt
kinds_alike most [] (d ∷ ds) h k = absurd h
kinds_alike most (c ∷ cs) [] h k = absurd h
kinds_alike most (c ∷ cs) (d ∷ ds) h k = (subst (λ n. n < most) h.0.0 k.0, kinds_alike most cs ds h.1 k.1)

pub trees_alike : (cs ds : List Cell) → AllZip Alike cs ds → (n : ℕ) → Trees n cs → Trees n ds
trees_alike [] [] h n t = t
trees_alike [] (d ∷ ds) h n t = absurd h
trees_alike (c ∷ cs) [] h n t = absurd h
trees_alike (c ∷ cs) (d ∷ ds) h n t = (t.0, subst (λ k. Trees (n - 1 + k) ds) h.0.1 (trees_alike cs ds h.1 (n - 1 + c.children) t.1))

module _ (a : Answers) where
  pub fit_alike : (cs ds : List Cell) → AllZip Alike cs ds → Fit a cs → Fit a ds
  fit_alike [] [] h f = tt
  fit_alike [] (d ∷ ds) h f = absurd h
  fit_alike (c ∷ cs) [] h f = absurd h
  fit_alike (c ∷ cs) (d ∷ ds) h f = (sym (λ i. fits_of a (h.0.0 i) (h.0.2 i) (h.0.1 i)) ∙ f.0, fit_alike cs ds h.1 f.1)

  -- the second cell's kind, child count and parameter, which are all that facts look at
  abbrev like : Cell → Cell → Cell
  like c d = record { kind = d.kind; children = d.children; parameter = d.parameter; mark = c.mark; fetch = c.fetch; hint = c.hint; skip = c.skip }

  like_same : (c d : Cell) → Alike c d → c ≡ like c d
  like_same c d h = λ i. record { kind = h.0 i; children = h.1 i; parameter = h.2 i; mark = c.mark; fetch = c.fetch; hint = c.hint; skip = c.skip }

  pub facts_alike : (cs ds : List Cell) → AllZip Alike cs ds → facts a cs ≡ facts a ds
  unfolding facts
  facts_alike [] [] h = refl
  facts_alike [] (d ∷ ds) h = absurd h
  facts_alike (c ∷ cs) [] h = absurd h
  facts_alike (c ∷ cs) (d ∷ ds) h =
      let below = facts_alike cs ds h.1 in
      λ i. fact_of a (like_same c d h.0 i) (below i) ∷ drop (h.0.1 i) (below i)

  pub counted_alike : (cs ds : List Cell) → AllZip Alike cs ds → Counted a cs → Counted a ds
  counted_alike [] [] h f = tt
  counted_alike [] (d ∷ ds) h f = absurd h
  counted_alike (c ∷ cs) [] h f = absurd h
  counted_alike (c ∷ cs) (d ∷ ds) h f =
      let all = facts_alike (c ∷ cs) (d ∷ ds) h in
      let below = facts_alike cs ds h.1 in
      (sym (λ i. miscounted (like_same c d h.0 i) (head_fact (all i)).partitions (head_fact (below i)).partitions) ∙ f.0, counted_alike cs ds h.1 f.1)

  pub root_alike : (cs ds : List Cell) → AllZip Alike cs ds → root_partitions a ds ≡ root_partitions a cs
  root_alike cs ds h = ap (λ (fs : List Fact). (head_fact fs).partitions) (sym (facts_alike cs ds h))
