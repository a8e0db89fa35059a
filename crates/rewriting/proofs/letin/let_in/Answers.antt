use Rattle.std.proofs.Common.{◌≡◌, ℕ, suc, ◌+◌, ◌⊎◌, [], ◌∷◌, ◌++◌, length, refl, sym, ap, ◌∙◌, subst, append_assoc, append-nil, arith}
use Rattle.std.proofs.lemmas.Bool.Decides.{not_from_Decides}
use Rattle.terms.specs.Cells.{kind, cell}
use Rattle.terms.specs.Lists.{over}
use Rattle.terms.specs.Rows.{Row, flat, size, kind_of, ◌&◌, var, up}
use Rattle.terms.specs.Rows.Row.{none, node}
use Rattle.terms.proofs.Trees.{flat_size, flat-&}
use Rattle.terms.proofs.Bridge.{rename_size, size-&}
use Rattle.lets.specs.Syntax.{let_in}
use Rattle.lets.specs.Figure.{Carries}
use Rattle.terms.specs.Forest.{Are}
use Rattle.rewriting.specs.Redexes.{Is}
use Rattle.rewriting.proofs.Standings.{spelled, spelled_size, kind_here}
use Rattle.rewriting.proofs.Symbols.{carries_same, carries_size}
use Rattle.rewriting.proofs.Redexes.{spelling}
use Rattle.rewriting.proofs.Writes.{fits_from, filled_none, filled_more, wrote_filled}
use Rattle.rewriting.proofs.letin.let_in.Goals as goal
use Rattle.rewriting.proofs.letin.let_in.Goals.{In_ok-parts, After-head}

-- the term with its child before it, and its cells
abbrev moved_out : ℕ → Row → Row → Row → Row
moved_out h before e after = let_in e (node h (up before & (var 0 & up after)) none)

new_size : (h : ℕ) (before e after : Row) → size (moved_out h before e after) ≡ 3 + size before + size e + size after
new_size h before e after =
    omega (arith, size-& e (node h (up before & (var 0 & up after)) none), size-& (up before) (var 0 & up after), rename_size (λ x. x + 1) 0 0 before, rename_size (λ x. x + 1) 0 0 after)

new_cells : (h : ℕ) (before e after : Row) → (((((cell 35 1 2 0 ∷ []) ++ flat e) ++ h ∷ []) ++ flat (up before)) ++ 0 ∷ []) ++ flat (up after) ≡ flat (moved_out h before e after)
new_cells h before e after = simp (flat-&, append_assoc, append-nil)

-- the kind of the child
child_kind : (c : goal.After-head) (e : Row) → Is c.in_ok-parts.parts.child e → kind_of e ≡ kind c.head.result
child_kind c e h = kind_here e (spelled e h.0 h.1) ∙ ap kind (sym c.head.ensures)

pub returns-then-not-is_moved : goal.returns-then-not-is_moved
returns-then-not-is_moved c = λ t h e.
    let p = c.in_ok-parts.ensures t (h, e) in
    let k = child_kind (goal.at.returns-then-not-is_moved c).After-head p.0.e (p.0.letters.1, p.3) in
    let no = not_from_Decides _ c.is_moved.ensures c.if-not-is_moved.true in
    (refl, (p.0, λ l yes. no (subst (λ n. (n ≡ 33) ⊎ (n ≡ 35)) (ap kind_of (carries_same l p.0).1 ∙ k) yes)))

pub returns-then-redex-space : goal.returns-then-redex-space
returns-then-redex-space c = λ t h e.
    let p = c.in_ok-parts.ensures t (h, e) in
    let l = p.0 in
    let k = child_kind (goal.at.returns-then-redex-space c).After-head l.e (l.letters.1, p.3) in
    let yes = subst (λ n. (n ≡ 33) ⊎ (n ≡ 35)) (sym k) (c.is_moved.ensures.0 c.if-not-is_moved.false) in
    (refl, (moved_out l.h l.before l.e l.after, (l, yes, tt, refl), omega (arith, new_size l.h l.before l.e l.after, spelled_size t e, carries_size (spelled t h e) l)))

-- the redex and its child by their cells
record Placed (c : goal.In_ok-parts) (t : Row) : Type 0 where
  pub parts : Carries c.args.argument t
  pub long : length c.args.redex.cells.now ≡ suc (size parts.before + (size parts.e + size parts.after))
  pub child_long : size parts.e ≡ length c.in_ok-parts.parts.child.cells.now
  pub before : Are c.in_ok-parts.parts.before parts.before
  pub after : Are c.in_ok-parts.parts.after parts.after

placed : (c : goal.In_ok-parts) (t : Row) → Is c.args.redex t → Placed c t
placed c t h =
    let p = c.in_ok-parts.ensures t h in
    record {
      parts = p.0;
      long = sym (spelled_size t h.1) ∙ carries_size (spelled t h.0 h.1) p.0;
      child_long = spelled_size p.0.e p.3;
      before = p.2;
      after = p.4;
    }

pub put-head-requires : goal.put-head-requires
put-head-requires c =
    let s = spelling c.args.redex.lawful in
    let q = placed (goal.at.put-head-requires c).In_ok-parts s.row (s.lawful, s.reads) in
    let n = q.long in
    let m = q.child_long in
    omega (arith, c.put-e.ensures.end)

pub put-before-requires : goal.put-before-requires
put-before-requires c =
    let s = spelling c.args.redex.lawful in
    let q = placed (goal.at.put-before-requires c).In_ok-parts s.row (s.lawful, s.reads) in
    let n = q.long in
    let m = q.child_long in
    omega (arith, c.put-e.ensures.end, c.put-head.ensures.end)

pub put_renamed-x-requires-clause-room : goal.put_renamed-x-requires-clause-room
put_renamed-x-requires-clause-room c =
    let s = spelling c.args.redex.lawful in
    let q = placed (goal.at.put_renamed-x-requires-clause-room c).In_ok-parts s.row (s.lawful, s.reads) in
    let n = q.long in
    let m = q.child_long in
    let i = c.put-e.ensures.end in
    let j = c.put-head.ensures.end in
    let k = c.put-before.ensures.end in
    λ t u. fits_from _ q.before (omega arith) t u

pub put-after-requires : goal.put-after-requires
put-after-requires c =
    let s = spelling c.args.redex.lawful in
    let q = placed (goal.at.put-after-requires c).In_ok-parts s.row (s.lawful, s.reads) in
    let n = q.long in
    let m = q.child_long in
    let i = c.put-e.ensures.end in
    let j = c.put-head.ensures.end in
    let k = c.put-before.ensures.end in
    omega (arith, c.put_renamed-x.ensures.end q.parts.before q.before)

pub put_renamed-requires-clause-room : goal.put_renamed-requires-clause-room
put_renamed-requires-clause-room c =
    let s = spelling c.args.redex.lawful in
    let q = placed (goal.at.put_renamed-requires-clause-room c).In_ok-parts s.row (s.lawful, s.reads) in
    let n = q.long in
    let m = q.child_long in
    let i = c.put-e.ensures.end in
    let j = c.put-head.ensures.end in
    let k = c.put-before.ensures.end in
    let x = c.put_renamed-x.ensures.end q.parts.before q.before in
    let y = c.put-after.ensures.end in
    λ t u. fits_from _ q.after (omega arith) t u

pub returns : goal.returns
returns c = λ t h e.
    let p = c.in_ok-parts.ensures t (h, e) in
    let l = p.0 in
    let w = child_kind (goal.at.returns c).After-head l.e (l.letters.1, p.3) in
    let yes = subst (λ n. (n ≡ 33) ⊎ (n ≡ 35)) (sym w) (c.is_moved.ensures.0 c.if-not-is_moved.false) in
    let long = spelled_size t e in
    let sized = carries_size (spelled t h e) l in
    let se = spelled_size l.e p.3 in
    let fe = flat_size l.e in
    let fb = flat_size (up l.before) ∙ rename_size (λ x. x + 1) 0 0 l.before in
    let fa = flat_size (up l.after) ∙ rename_size (λ x. x + 1) 0 0 l.after in
    let i = c.put-e.ensures.end in
    let j = c.put-head.ensures.end in
    let k = c.put-before.ensures.end in
    let x = c.put_renamed-x.ensures.end l.before p.2 in
    let y = c.put-after.ensures.end in
    let z = c.put_renamed.ensures.end l.after p.4 in
    let first = filled_more (filled_none c.args.space.now) _ (cell 35 1 2 0 ∷ []) 0 1 refl refl c.put-e.ensures.wrote in
    let second = filled_more first _ (flat l.e) c.put-e.result (size l.e) (omega arith) fe (c.put-head.ensures.wrote ∙ ap (over _ c.put-e.result) (sym p.3)) in
    let third = filled_more second _ (l.h ∷ []) c.put-head.result 1 (omega arith) refl (c.put-before.ensures.wrote ∙ ap (λ v. over c.put-head.new.space c.put-head.result (v ∷ [])) p.1) in
    let fourth = filled_more third _ (flat (up l.before)) c.put-before.result (size l.before) (omega arith) fb (c.put_renamed-x.ensures.wrote l.before p.2) in
    let fifth = filled_more fourth _ (0 ∷ []) c.put_renamed-x.result 1 (omega arith) refl c.put-after.ensures.wrote in
    let last = filled_more fifth _ (flat (up l.after)) c.put-after.result (size l.after) (omega arith) fa (c.put_renamed.ensures.wrote l.after p.4) in
    wrote_filled _ (moved_out l.h l.before l.e l.after) _ (l, yes, tt, refl) last (new_cells l.h l.before l.e l.after) (omega arith) (omega arith)
