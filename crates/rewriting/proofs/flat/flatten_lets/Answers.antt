use Rattle.std.proofs.Common.{rules, ◌≡◌, ◌+◌, [], ◌∷◌, ◌++◌, refl, sym, ap, ◌∙◌, append_assoc, append-nil, arith}
use Rattle.terms.specs.Cells.{cell}
use Rattle.terms.specs.Lists.{over}
use Rattle.terms.specs.Rows.{Row, flat, size, up_beyond, beyond}
use Rattle.terms.proofs.Trees.{flat_size, flat-&}
use Rattle.terms.proofs.Bridge.{rename_size, size-&}
use Rattle.lets.specs.Syntax.{let_in}
use Rattle.lets.specs.Figure.{Lets}
use Rattle.rewriting.specs.Redexes.{Is}
use Rattle.rewriting.proofs.Standings.{spelled_size}
use Rattle.rewriting.proofs.LetParts.{Flattened, flattened, lets_outer}
use Rattle.rewriting.proofs.Redexes.{spelling}
use Rattle.rewriting.proofs.Writes.{fits_from, filled_none, filled_more, wrote_filled}
use Rattle.rewriting.proofs.flat.flatten_lets.Goals as goal
use Rattle.rewriting.proofs.flat.flatten_lets.Goals.{In_ok-inner}

-- the new let's cells
new_size : (a b e : Row) → size (let_in a (let_in b (up_beyond e))) ≡ 2 + size a + size b + size e
new_size a b e = omega (arith, size-& a (let_in b (up_beyond e)), size-& b (up_beyond e), rename_size beyond 0 0 e)

new_cells : (a b e : Row) → ((((cell 35 1 2 0 ∷ []) ++ flat a) ++ cell 35 1 2 0 ∷ []) ++ flat b) ++ flat (up_beyond e) ≡ flat (let_in a (let_in b (up_beyond e)))
new_cells a b e = simp (flat-&, append_assoc, append-nil)

-- the parts of a redex of this shape
parts : (c : goal.In_ok-inner) (t : Row) → Is c.args.redex t → Flattened t c.in_ok-inner.inner.bound.cells.now c.in_ok-inner.inner.body.cells.now c.in_ok-outer.outer.body.cells.now
parts c t h =
    let p = c.in_ok-outer.ensures t h in
    let q = c.in_ok-inner.ensures p.0.a (p.0.letters.0, p.1) in
    flattened p.0 q.0 q.1 q.2 p.2

pub returns-in_err-outer : goal.returns-in_err-outer
returns-in_err-outer c = λ t h e.
    let bad = c.in_err-outer.ensures t (h, e) in
    let none_there : (Lets t → ⊥) = λ q. bad.1 (lets_outer q) in
    search rules

pub returns-then-redex-space : goal.returns-then-redex-space
returns-then-redex-space c = λ t h e.
    let q = parts (goal.at.returns-then-redex-space c).In_ok-inner t (h, e) in
    let l = q.lets in
    let n = q.long in
    (refl, (let_in l.a (let_in l.b (up_beyond l.e)), (l, tt, tt, refl), omega (arith, spelled_size t e, new_size l.a l.b l.e, spelled_size l.a q.a_is, spelled_size l.b q.b_is, spelled_size l.e q.e_is)))

pub put-a-requires : goal.put-a-requires
put-a-requires c = let s = spelling c.args.redex.lawful in let n = (parts (goal.at.put-a-requires c).In_ok-inner s.row (s.lawful, s.reads)).long in omega (arith, spelled_size s.row s.reads)

pub put-second-requires : goal.put-second-requires
put-second-requires c = let s = spelling c.args.redex.lawful in let n = (parts (goal.at.put-second-requires c).In_ok-inner s.row (s.lawful, s.reads)).long in omega (arith, spelled_size s.row s.reads, c.put-a.ensures.end)

pub put-b-requires : goal.put-b-requires
put-b-requires c = let s = spelling c.args.redex.lawful in let n = (parts (goal.at.put-b-requires c).In_ok-inner s.row (s.lawful, s.reads)).long in omega (arith, spelled_size s.row s.reads, c.put-a.ensures.end)

pub put-e-requires : goal.put-e-requires
put-e-requires c = let s = spelling c.args.redex.lawful in let n = (parts (goal.at.put-e-requires c).In_ok-inner s.row (s.lawful, s.reads)).long in omega (arith, spelled_size s.row s.reads, c.put-a.ensures.end, c.put-b.ensures.end)

pub put_renamed-requires-clause-room : goal.put_renamed-requires-clause-room
put_renamed-requires-clause-room c =
    let s = spelling c.args.redex.lawful in
    let p = c.in_ok-outer.ensures s.row (s.lawful, s.reads) in
    let q = parts (goal.at.put_renamed-requires-clause-room c).In_ok-inner s.row (s.lawful, s.reads) in
    let n = q.long in
    let i = c.put-a.ensures.end in
    let j = c.put-second.ensures.end in
    let k = c.put-b.ensures.end in
    let m = c.put-e.ensures.end in
    let z = spelled_size p.0.e p.2 in
    λ t u. fits_from _ (c.trees.ensures p.0.e (p.0.letters.1, p.2)) (omega (arith, spelled_size s.row s.reads)) t u

pub returns : goal.returns
returns c = λ t h e.
    let p = c.in_ok-outer.ensures t (h, e) in
    let q = parts (goal.at.returns c).In_ok-inner t (h, e) in
    let l = q.lets in
    let n = q.long in
    let x = flat_size l.a in
    let y = flat_size l.b in
    let z = flat_size (up_beyond l.e) in
    let w = rename_size beyond 0 0 l.e in
    let sa = spelled_size l.a q.a_is in
    let sb = spelled_size l.b q.b_is in
    let se = spelled_size l.e q.e_is in
    let st = spelled_size t e in
    let i = c.put-a.ensures.end in
    let j = c.put-second.ensures.end in
    let k = c.put-b.ensures.end in
    let m = c.put-e.ensures.end in
    let here = c.trees.ensures l.e (l.letters.2, q.e_is) in
    let first = filled_more (filled_none c.args.space.now) _ (cell 35 1 2 0 ∷ []) 0 1 refl refl c.put-a.ensures.wrote in
    let second = filled_more first _ (flat l.a) c.put-a.result (size l.a) (omega arith) x (c.put-second.ensures.wrote ∙ ap (over _ c.put-a.result) (sym q.a_is)) in
    let third = filled_more second _ (cell 35 1 2 0 ∷ []) c.put-second.result 1 (omega arith) refl c.put-b.ensures.wrote in
    let fourth = filled_more third _ (flat l.b) c.put-b.result (size l.b) (omega arith) y (c.put-e.ensures.wrote ∙ ap (over _ c.put-b.result) (sym q.b_is)) in
    let fifth = filled_more fourth _ (flat (up_beyond l.e)) c.put-e.result (size l.e) (omega arith) (z ∙ w) (c.put_renamed.ensures.wrote l.e here) in
    wrote_filled _ (let_in l.a (let_in l.b (up_beyond l.e))) _ (l, tt, tt, refl) fifth (new_cells l.a l.b l.e) (omega (arith, c.put_renamed.ensures.end l.e here)) (omega (arith, c.put_renamed.ensures.end l.e here))
