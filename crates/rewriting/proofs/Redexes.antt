-- What the code knows of a redex: which row it is, and where its parts stand. Assumes nothing.
use Rattle.std.proofs.Common.{◌≡◌, ℕ, ◌+◌, ◌-◌, ◌<◌, ◌≤◌, true, List, [], ◌∷◌, length, get_or, take, drop, sym, ap, ◌∙◌, subst, arith}
use Rattle.std.proofs.Props.{props}
use Rattle.std.proofs.Math.Logic.{∥∥₁_elim}
use Rattle.std.specs.Coded.{Unit-prop}
use Rattle.terms.specs.Cells.{kind, children}
use Rattle.terms.specs.Rows.{Row, flat, size}
use Rattle.terms.specs.Standing.{Stands}
use Rattle.terms.specs.Rows.Row.{none, node}
use Rattle.terms.specs.Reading.{trees}
use Rattle.terms.proofs.Readings.{reads_flat, flat_reads}
use Rattle.terms.proofs.Bridge.{formed_counted}
use Rattle.calculus.specs.Figures.{Spells}
use Rattle.lets.specs.Syntax.{Sort, admits, kids, Lawful, Term}
use Rattle.lets.specs.Syntax.Sort.{term}
use Rattle.terms.proofs.Endings.{stands_cells}
use Rattle.lets.specs.Figure.{Let, Carries}
use Rattle.lets.proofs.Meaning.{formed}
use Rattle.rewriting.proofs.Standings.{TermAt, spelled, spelled_size}
use Rattle.rewriting.proofs.LetParts.{here_let, bound_at, body_at, let_size}
use Rattle.rewriting.proofs.Symbols.{here_carries, before_at, child_at, after_at, head_children, carries_size}

lawful_prop : (ss : List Sort) (t : Row) → IsProp (Lawful ss t)
lawful_prop [] none u v = Unit-prop u v
lawful_prop [] (node c ks r) u v = absurd u
lawful_prop (s ∷ ss) none u v = absurd u
lawful_prop (s ∷ ss) (node c ks r) u v =
    let first : IsProp (admits s c ≡ true) = Prim.hlevel props in
    λ i. (first u.0 v.0 i, lawful_prop (kids s c) ks u.1 v.1 i, lawful_prop ss r u.2 v.2 i)

-- a lawful term is what its cells read as
pub term_reads : {cells : List ℕ} (t : Row) → Term t → flat t ≡ cells → trees cells ≡ t
term_reads t h e = ap trees (sym e) ∙ reads_flat t (formed_counted t (formed t h).1)

-- where cells are some lawful term, it is known which
pub spelling : {cells : List ℕ} → ∥ Spells Term cells ∥₁ → Spells Term cells
spelling {cells} s =
    record {
      row = trees cells;
      lawful = ∥∥₁_elim s (lawful_prop (term ∷ []) (trees cells)) (λ k. subst Term (sym (term_reads k.row k.lawful k.reads)) k.lawful);
      reads = flat_reads cells;
    }

-- and what holds of that holds of each term with the cells
pub of_each : {cells : List ℕ} (P : Row → Type 0) (s : Spells Term cells) → P s.row → (t : Row) → Term t × (flat t ≡ cells) → P t
of_each P s p t h = subst P (sym (term_reads s.row s.lawful s.reads) ∙ term_reads t h.0 h.1) p

-- the term and its cells, to be kept beside them
pub kept : {cells : List ℕ} (t : Row) → Term t → cells ≡ flat t → ∥ Spells Term cells ∥₁
kept t h e = ∣ record { row = t; lawful = h; reads = sym e } ∣₁

module _ {cells : List ℕ} (s : Spells Term cells) where
  pub at_front : TermAt s.row cells 0
  at_front = spelled s.row s.lawful s.reads

  pub cells_size : size s.row ≡ length cells
  cells_size = spelled_size s.row s.reads

  -- the parts of a let, the body from a cell on
  module _ (k : kind (get_or cells 0 0) ≡ 35) where
    pub the_let : Let s.row
    the_let = here_let s.row at_front k

    pub bound_stands : Stands the_let.a 1 cells 1
    bound_stands = (bound_at at_front the_let).stands

    module _ (body : ℕ) (e : body ≡ 1 + size the_let.a) where
      pub body_within : (1 ≤ body) × (body ≤ length cells)
      body_within = (omega arith, omega (arith, let_size at_front the_let, cells_size))

      pub bound_cells : take (body - 1) (drop 1 cells) ≡ flat the_let.a
      bound_cells = stands_cells bound_stands (body - 1) (omega arith)

      pub body_cells : take (length cells - body) (drop body cells) ≡ flat the_let.e
      body_cells = stands_cells (body_at at_front the_let body e).stands (length cells - body) (omega (arith, let_size at_front the_let, cells_size))

  -- the parts of a symbol, the child of the number n from one cell to another
  module _ (n : ℕ) (k : (32 ≤ kind (get_or cells 0 0)) × (kind (get_or cells 0 0) ≤ 34)) (l : n < children (get_or cells 0 0)) where
    pub the_symbol : Carries n s.row
    the_symbol = here_carries s.row n at_front k l

    pub before_stands : Stands the_symbol.before n cells 1
    before_stands = before_at at_front the_symbol

    module _ (start : ℕ) (e : start ≡ 1 + size the_symbol.before) where
      pub child_stands : Stands the_symbol.e 1 cells start
      child_stands = (child_at at_front the_symbol start e).stands

      module _ (end : ℕ) (f : end ≡ start + size the_symbol.e) where
        pub child_within : (start ≤ end) × (end ≤ length cells)
        child_within = (omega arith, omega (arith, carries_size at_front the_symbol, cells_size))

        pub child_cells : take (end - start) (drop start cells) ≡ flat the_symbol.e
        child_cells = stands_cells child_stands (end - start) (omega arith)

        pub after_stands : Stands the_symbol.after (children (get_or cells 0 0) - n - 1) cells end
        after_stands = after_at at_front the_symbol start end _ e f (omega (arith, head_children at_front the_symbol))
