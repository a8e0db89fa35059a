-- A row written at the front of a space piece by piece, for a line that gives it. Assumes nothing.
use Rattle.std.proofs.Common.{◌≡◌, ℕ, ◌+◌, ◌≤◌, List, [], ◌++◌, length, sym, refl, ap, ◌∙◌, subst, arith, length-append}
use Rattle.terms.specs.Lists.{over}
use Rattle.terms.specs.Rows.{Row, flat, size}
use Rattle.terms.specs.Standing.{Stands}
use Rattle.terms.proofs.Trees.{flat_size}
use Rattle.terms.proofs.Standings.{stands_same}
use Rattle.terms.proofs.Steps.{over-++}
use Rattle.moves.proofs.Overs.{over_front}
use Rattle.calculus.specs.Line.{Line, Gives}
use Rattle.calculus.specs.Written.{Wrote}

-- trees of that number at that cell fit
pub fits_from : (to : ℕ) {u : Row} {n at most : ℕ} {cells : List ℕ} → Stands u n cells at → to + size u ≤ most → (t : Row) → Stands t n cells at → to + size t ≤ most
fits_from to {most = most} s l t r = subst (λ v. to + size v ≤ most) (stands_same s r) l

-- the n cells xs stand at the front of the space
pub record Filled (space out xs : List ℕ) (n : ℕ) : Type 0 where
  pub count : length xs ≡ n
  pub is : out ≡ over space 0 xs

-- none yet, and more of them
pub filled_none : (space : List ℕ) → Filled space space [] 0
filled_none space = record { count = refl; is = refl }

pub filled_more : {space out xs : List ℕ} {n : ℕ} → Filled space out xs n → (out' ys : List ℕ) (at m : ℕ) → at ≡ n → length ys ≡ m → out' ≡ over out at ys → Filled space out' (xs ++ ys) (at + m)
filled_more {space} {out} {xs} {n} f out' ys at m e l w =
    record {
      count = omega (arith, length-append xs ys, f.count);
      is = w ∙ ap (λ o. over o at ys) f.is ∙ sym (over-++ space 0 xs ys at (omega (arith, f.count)));
    }

-- a line's row, all of it written
pub wrote : (ln : Line) (u : Row) (space space' : List ℕ) (n : ℕ) → Gives ln u → n ≡ size u → size u ≤ length space → space' ≡ over space 0 (flat u) → Wrote ln space space' n
wrote ln u space space' n g e l w =
    record { row = u; gives = g; count = e; enough = l; writes = w ∙ over_front space (flat u) (size u) (sym (flat_size u)) l }

pub wrote_filled : (ln : Line) (u : Row) {space space' xs : List ℕ} {k : ℕ} (n : ℕ) → Gives ln u → Filled space space' xs k → xs ≡ flat u → n ≡ k → n ≤ length space → Wrote ln space space' n
wrote_filled ln u {space} {space'} {xs} n g f e z l =
    let s : size u ≡ n = sym (flat_size u) ∙ ap length (sym e) ∙ f.count ∙ sym z in
    wrote ln u space space' n g (sym s) (omega arith) (f.is ∙ ap (over space 0) e)
