-- A context over cells: those left of the hole, the term in it, and those right of the hole. Assumes nothing.
use Rattle.std.proofs.Common.{◌≡◌, ℕ, ◌+◌, List, ◌∷◌, ◌++◌, length, drop, sym, refl, ap, ◌∙◌, append_assoc, append-nil, arith, length-append}
use Rattle.std.proofs.lemmas.List.{drop_at, drop-drop}
use Rattle.terms.specs.Cells.{cell}
use Rattle.terms.specs.Rows.{Row, flat, size, width, Counted, ◌&◌}
use Rattle.terms.specs.Rows.Row.{none, node}
use Rattle.terms.specs.Standing.{Stands}
use Rattle.terms.proofs.Trees.{flat_size, flat-&}
use Rattle.verse.specs.Contexts.{Context, ◌⟦◌⟧}
use Rattle.verse.specs.Contexts.Context.{□, in_equation, in_first, in_second, in_exists, in_left, in_right, in_one, in_all}
use Rattle.verse_contexts.specs.Frames.{left, right}

-- one cell over one tree, or over two
flat_one : (c : ℕ) (a : Row) → flat (node c a none) ≡ c ∷ flat a
flat_one c a = ap (λ l. c ∷ l) (append-nil (flat a))

pub flat_two : (c : ℕ) (a b : Row) → flat (node c (a & b) none) ≡ c ∷ flat a ++ flat b
flat_two c a b = flat_one c (a & b) ∙ ap (λ l. c ∷ l) (flat-& a b)

pub plug_flat : (C : Context) (t : Row) → flat (C ⟦ t ⟧) ≡ left C ++ (flat t ++ right C)
plug_flat □ t = sym (append-nil (flat t))
plug_flat (in_equation v C e) t =
    flat_two (cell 6 0 2 0) (node (cell 7 0 2 0) (v & (C ⟦ t ⟧)) none) e ∙ ap (λ l. cell 6 0 2 0 ∷ l ++ flat e) (flat_two (cell 7 0 2 0) v (C ⟦ t ⟧) ∙ ap (λ l. cell 7 0 2 0 ∷ flat v ++ l) (plug_flat C t)) ∙ simp append_assoc
plug_flat (in_first C e) t =
    flat_two (cell 6 0 2 0) (C ⟦ t ⟧) e ∙ ap (λ l. cell 6 0 2 0 ∷ l ++ flat e) (plug_flat C t) ∙ simp append_assoc
plug_flat (in_second q C) t =
    flat_two (cell 6 0 2 0) q (C ⟦ t ⟧) ∙ ap (λ l. cell 6 0 2 0 ∷ flat q ++ l) (plug_flat C t) ∙ simp append_assoc
plug_flat (in_exists C) t = flat_one (cell 8 1 1 0) (C ⟦ t ⟧) ∙ ap (λ l. cell 8 1 1 0 ∷ l) (plug_flat C t)
plug_flat (in_left C e) t =
    flat_two (cell 10 0 2 0) (C ⟦ t ⟧) e ∙ ap (λ l. cell 10 0 2 0 ∷ l ++ flat e) (plug_flat C t) ∙ simp append_assoc
plug_flat (in_right e C) t =
    flat_two (cell 10 0 2 0) e (C ⟦ t ⟧) ∙ ap (λ l. cell 10 0 2 0 ∷ flat e ++ l) (plug_flat C t) ∙ simp append_assoc
plug_flat (in_one C) t = flat_one (cell 11 0 1 0) (C ⟦ t ⟧) ∙ ap (λ l. cell 11 0 1 0 ∷ l) (plug_flat C t)
plug_flat (in_all C) t = flat_one (cell 12 0 1 0) (C ⟦ t ⟧) ∙ ap (λ l. cell 12 0 1 0 ∷ l) (plug_flat C t)

pub plug_size : (C : Context) (t : Row) → size (C ⟦ t ⟧) ≡ length (left C) + size t + length (right C)
plug_size C t =
    let n = flat_size (C ⟦ t ⟧) in
    let m = flat_size t in
    omega (arith, ap length (plug_flat C t), length-append (left C) (flat t ++ right C), length-append (flat t) (right C))

-- the term in the hole stands behind the cells left of it, and ends before those right of it
pub hole_stands : (C : Context) (t : Row) {cells : List ℕ} {at : ℕ} → Stands (C ⟦ t ⟧) 1 cells at → Counted t → width t ≡ 1 → Stands t 1 cells (at + length (left C))
hole_stands C t {cells} {at} s g w =
    let e : left C ++ ((flat t ++ right C) ++ s.rest) ≡ drop at cells =
    sym (append_assoc (left C) (flat t ++ right C) s.rest) ∙ ap (λ l. l ++ s.rest) (sym (plug_flat C t)) ∙ s.reads in
    record {
      counted = g;
      wide = w;
      rest = right C ++ s.rest;
      reads = sym (append_assoc (flat t) (right C) s.rest) ∙ sym (drop_at (left C) ((flat t ++ right C) ++ s.rest) (length (left C)) refl) ∙ ap (drop (length (left C))) e ∙ drop-drop (length (left C)) at cells;
    }
