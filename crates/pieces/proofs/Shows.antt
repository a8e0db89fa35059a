-- The cells that pieces show. Assumes nothing.
use Rattle.std.proofs.Common.{◌≡◌, ℕ, ◌+◌, ◌-◌, ◌<◌, ◌≤◌, List, [], ◌++◌, length, Some, get_or, take, drop, sym, refl, ap, ◌∙◌, append_assoc, append-nil, arith, length-append}
use borrow.Rule.Slice.PartMut.{put_mid}
use Rattle.std.proofs.Math.Logic.{∥∥₁_elim, ∥∥₁_map}
use Rattle.std.proofs.Props.{props}
use Rattle.std.proofs.lemmas.List.{drop_more, drop_all}
use Rattle.moves.specs.declared.renaming.Renaming.{Renaming}
use Rattle.moves.specs.Renamings.{renamed}
use Rattle.terms.specs.Rows.{Row, flat, rename}
use Rattle.terms.specs.Standing.{Stands, Standing}
use Rattle.terms.specs.Terms.{TreeOf}
use Rattle.terms.specs.Reading.{trees}
use Rattle.terms.proofs.Trees.{flat_size}
use Rattle.terms.proofs.Bridge.{rename_size}
use Rattle.terms.proofs.Readings.{reads_flat, flat_reads}
use Rattle.terms.proofs.Standings.{standing, stands_same}
use Rattle.moves.proofs.Calls.{term_stands}
use Rattle.pieces.specs.Parts.{OneTree}
use Rattle.pieces.specs.declared.piece.Piece.{Piece}
use Rattle.moves.proofs.Overs.{Fronts, fronts_none, fronts_next}
use Rattle.pieces.specs.Shown.{shown, shown_all, Put}

-- cells moved are as many
pub moved_length : (cells : List ℕ) (how : Renaming) → length (flat (rename (renamed how) 0 0 (trees cells))) ≡ length cells
moved_length cells how =
    flat_size (rename (renamed how) 0 0 (trees cells)) ∙ rename_size (renamed how) 0 0 (trees cells) ∙ sym (flat_size (trees cells)) ∙ ap length (flat_reads cells)

-- the tree that fills the cells
pub tree_trees : {cells : List ℕ} {t : Row} → TreeOf cells t → trees cells ≡ t
tree_trees {cells} {t} s = ap trees (sym s.reads) ∙ reads_flat t s.counted

-- what is left of the pieces: the next one, and the others
pub shown_more : (ps : List Piece) (i : ℕ) (d : Piece) → i < length ps → shown_all (drop i ps) ≡ shown (get_or ps i d) ++ shown_all (drop (i + 1) ps)
shown_more ps i d h = ap shown_all (drop_more ps i d h)

pub length_more : (ps : List Piece) (i : ℕ) (d : Piece) → i < length ps → length (shown_all (drop i ps)) ≡ length (shown (get_or ps i d)) + length (shown_all (drop (i + 1) ps))
length_more ps i d h = ap length (shown_more ps i d h) ∙ length-append (shown (get_or ps i d)) (shown_all (drop (i + 1) ps))

pub shown_none : (ps : List Piece) (i : ℕ) → length ps ≤ i → shown_all (drop i ps) ≡ []
shown_none ps i h = ap shown_all (drop_all i ps h)

-- the pieces before this one are written, up to here
pub record Laid (ps : List Piece) (i to : ℕ) (space space' : List ℕ) : Type 0 where
  pub front : List ℕ
  pub before : front ++ shown_all (drop i ps) ≡ shown_all ps
  pub is : Fronts front space space' to

pub laid_none : (ps : List Piece) (space : List ℕ) → Laid ps 0 0 space space
laid_none ps space = record { front = []; before = refl; is = fronts_none space }

-- a piece more
pub laid_more : (ps : List Piece) (i to m : ℕ) (d : Piece) (space space' part : List ℕ) → Laid ps i to space space' → i < length ps → d ≡ get_or ps i d → Put (shown d) (take (length space' - to) (drop to space')) part (Some m) → Laid ps (i + 1) (to + m) space (put_mid to (length space' - to) space' part)
laid_more ps i to m d space space' part w h e (a, b, g) =
    record {
      front = w.front ++ shown d;
      before = append_assoc w.front (shown d) (shown_all (drop (i + 1) ps)) ∙ ap (λ x. w.front ++ x) (ap (λ q. shown q ++ shown_all (drop (i + 1) ps)) e ∙ sym (shown_more ps i d h)) ∙ w.before;
      is = fronts_next w.is (record { count = a; fits = b; writes = g });
    }

-- no piece is left
pub laid_all : (ps : List Piece) (i to : ℕ) (space space' : List ℕ) → Laid ps i to space space' → length ps ≤ i → space' ≡ shown_all ps ++ drop (length (shown_all ps)) space
laid_all ps i to space space' w h =
    let e : w.front ≡ shown_all ps = sym (append-nil w.front) ∙ ap (λ x. w.front ++ x) (sym (shown_none ps i h)) ∙ w.before in
    w.is.writes ∙ ap (λ x. x ++ drop to space) e ∙ ap (λ n. shown_all ps ++ drop n space) (w.is.count ∙ ap length e)

-- there is room for the next piece
pub laid_room : (ps : List Piece) (i to : ℕ) (d : Piece) (space space' : List ℕ) → Laid ps i to space space' → i < length ps → d ≡ get_or ps i d → to + length (shown d) ≤ length (shown_all ps)
laid_room ps i to d space space' w h e =
    omega (arith, length-append w.front (shown_all (drop i ps)), ap length w.before, w.is.count, length_more ps i d h, ap (λ q. length (shown q)) e)

-- a tree that fills the cells stands there
pub tree_standing : {cells : List ℕ} → ∥ OneTree cells ∥₁ → ∥ Standing 1 cells 0 ∥₁
tree_standing h = ∥∥₁_map h (λ x. (x.0, term_stands x.1))

-- and it is known which
pub the_tree : {cells : List ℕ} → ∥ OneTree cells ∥₁ → (t : Row) × Stands t 1 cells 0 × (trees cells ≡ t)
the_tree {cells} h =
    let s = standing (tree_standing h) in
    let e : flat s.0 ≡ cells =
    ∥∥₁_elim h (Prim.hlevel props) (λ x. ap flat (stands_same s.1 (term_stands x.1)) ∙ x.1.reads) in
    (s.0, s.1, ap trees (sym e) ∙ reads_flat s.0 s.1.counted)
