-- A step at a site keeps the whole, from the laws alone. Assumes nothing.
use Rattle.std.proofs.Common.{ℕ, ◌<◌, ◌≤◌, List, length, sym, refl, subst}
use Rattle.terms.specs.Rows.{frees, depth}
use Rattle.terms.specs.Terms.{FreeIn, Deep, Laid}
use Rattle.terms.proofs.Wholes.{whole_free, free_in, all_in, in_all}
use Rattle.calculus.specs.Meaning.{Meaning}
use Rattle.calculus.specs.Laws.{Laws}
use Rattle.calculus.specs.Rewriting.{Rewritten, StepsKeep}

module _ (m : Meaning) (laws : Laws m) where
  module _ (rule argument : ℕ) (cells place inner to : List ℕ) (r : Rewritten m rule argument cells place inner to) where
    stays_lawful : m.lawful to
    stays_lawful =
        subst (λ u. m.lawful u) (sym r.is) (laws.first rule argument cells place inner r.left r.redex r.right r.result r.site r.at r.gives r.few)

    frees_none : (n : ℕ) → FreeIn n to → FreeIn n cells
    frees_none n f =
        let g = laws.term rule argument inner r.redex r.result r.gives r.few in
        whole_free cells place r.left r.redex r.right r.result n r.at g.tree g.is (λ k h. laws.second rule argument k inner r.redex r.result r.gives r.few h) (subst (FreeIn n) r.is f)

    stays_laid : Laid cells → length to ≤ 2048 → ((d : ℕ) → Deep to d → d ≤ 256) → Laid to
    stays_laid lay few low =
        let g = laws.formed to stays_lawful in
        record {
          tree = g.tree;
          is = g.is;
          formed = g.formed;
          few = few;
          shallow = low (depth g.tree) (record { tree = g.tree; is = g.is; deep = refl });
          near =
              in_all (λ n. n < 1024) (frees 0 0 g.tree) (λ n h. all_in (λ n. n < 1024) (frees 0 0 lay.tree) n lay.near (free_in n cells lay.tree lay.is (frees_none n (record { tree = g.tree; is = g.is; free = h }))));
        }

  pub steps_keep : StepsKeep m
  steps_keep =
      record {
        lawful = stays_lawful;
        free = frees_none;
        bounded = λ rule argument cells place inner to r k low n f. low n (frees_none rule argument cells place inner to r n f);
        closed = λ rule argument cells place inner to r none n f. none n (frees_none rule argument cells place inner to r n f);
        laid = stays_laid;
      }
