-- The first step down an inner place.
use Rattle.std.proofs.Common.{◌≡◌, ℕ, List, [], ◌∷◌, refl}
use Rattle.terms.specs.Rows.{Row}
use Rattle.verse.specs.Contexts.{Context, ◌⟦◌⟧, place, X, CX, Down}
use Rattle.verse.specs.Contexts.Context.{□, in_equation, in_first, in_second, in_exists, in_left, in_right, in_one, in_all}
use Rattle.verse.specs.Syntax.{seq, eqn, exists, Val, Exp, Equ}
use Rattle.verse.proofs.Laws.{plug_exp, plug_cx}
use Rattle.verse_contexts.specs.declared.down.Way.{Way}
use Rattle.verse_contexts.specs.declared.down.Way.TheVariants.{Execution, Choice}
use Rattle.verse_contexts.specs.Walks.{Goes, Passes}

-- the step: none, or into a first part, through an equation, into a second part, under an exists
pub data Opens (way : Way) (inner : List ℕ) (t : Row) : Type 0 where
  ends : inner ≡ [] → Opens way inner t
  to_first : (q e : Row) (rest : List ℕ) → inner ≡ 0 ∷ rest → t ≡ seq q e → Exp q → Down (Goes way) Exp rest q → Opens way inner t
  to_equation : (v f e : Row) (rest : List ℕ) → inner ≡ 0 ∷ 1 ∷ rest → t ≡ seq (eqn v f) e → Val v → Down (Goes way) Exp rest f → Opens way inner t
  to_second : (q e : Row) (rest : List ℕ) → inner ≡ 1 ∷ rest → t ≡ seq q e → Equ q → Passes way q → Down (Goes way) Exp rest e → Opens way inner t
  under : (e : Row) (rest : List ℕ) → way ≡ Choice → inner ≡ 0 ∷ rest → t ≡ exists e → Down (Goes way) Exp rest e → Opens way inner t

down_of : (way : Way) (C : Context) → Goes way C → (h : Row) → Exp h → Down (Goes way) Exp (place C) (C ⟦ h ⟧)
down_of way C g h l = record { C = C; goes = g; way = refl; hole = h; there = l; is = refl }

open_x : (inner : List ℕ) (t : Row) (C : Context) (h : Row) → X C → inner ≡ place C → Exp h → t ≡ C ⟦ h ⟧ → Opens Execution inner t
unfolding down_of
open_x inner t □ h g p l is = ends p
open_x inner t (in_equation v C e) h g p l is = to_equation v (C ⟦ h ⟧) e (place C) p is g.0 (down_of Execution C g.1 h l)
open_x inner t (in_first C e) h g p l is = to_first (C ⟦ h ⟧) e (place C) p is (plug_exp C h g.0 l) (down_of Execution C g.0 h l)
open_x inner t (in_second q C) h g p l is = to_second q (C ⟦ h ⟧) (place C) p is g.0 tt (down_of Execution C g.1 h l)
open_x inner t (in_exists C) h g p l is = absurd g
open_x inner t (in_left C e) h g p l is = absurd g
open_x inner t (in_right e C) h g p l is = absurd g
open_x inner t (in_one C) h g p l is = absurd g
open_x inner t (in_all C) h g p l is = absurd g

open_cx : (inner : List ℕ) (t : Row) (C : Context) (h : Row) → CX C → inner ≡ place C → Exp h → t ≡ C ⟦ h ⟧ → Opens Choice inner t
unfolding down_of
open_cx inner t □ h g p l is = ends p
open_cx inner t (in_equation v C e) h g p l is = to_equation v (C ⟦ h ⟧) e (place C) p is g.0 (down_of Choice C g.1 h l)
open_cx inner t (in_first C e) h g p l is = to_first (C ⟦ h ⟧) e (place C) p is (plug_cx C h g.0 l) (down_of Choice C g.0 h l)
open_cx inner t (in_second q C) h g p l is = to_second q (C ⟦ h ⟧) (place C) p is g.0 g.1 (down_of Choice C g.2 h l)
open_cx inner t (in_exists C) h g p l is = under (C ⟦ h ⟧) (place C) refl p is (down_of Choice C g h l)
open_cx inner t (in_left C e) h g p l is = absurd g
open_cx inner t (in_right e C) h g p l is = absurd g
open_cx inner t (in_one C) h g p l is = absurd g
open_cx inner t (in_all C) h g p l is = absurd g

pub opens : (way : Way) (inner : List ℕ) (t : Row) → Down (Goes way) Exp inner t → Opens way inner t
opens Execution inner t d = open_x inner t d.C d.hole d.goes d.way d.there d.is
opens Choice inner t d = open_cx inner t d.C d.hole d.goes d.way d.there d.is
