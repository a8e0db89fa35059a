use Rattle.std.proofs.Common.{◌≡◌, ◌+◌, ◌-◌, ◌∷◌, Some, None, length, get_or, take, drop, sym, ap, ◌∙◌, subst, arith, rules}
use denote.Enum.Bare.{sameb, same_true}
use mathlib.Core.Bool.{false≢true}
use Rattle.terms.specs.Cells.{kind}
use Rattle.terms.specs.Rows.{size}
use Rattle.verse.specs.Kind.{number_of}
use Rattle.verse.specs.declared.kind.Kind.TheVariants.{Sequence, Exists}
use Rattle.verse.proofs.Numbers.{same_kind}
use Rattle.verse.specs.Syntax.{seq}
use Rattle.verse.specs.Syntax.Sort.{exp, equ}
use Rattle.verse_contexts.specs.contracts.down.Way.{the_type}
use Rattle.verse_contexts.specs.declared.down.Way.TheVariants.{Choice}
use Rattle.verse_contexts.specs.Walks.{Goes, Walked}
use Rattle.verse_contexts.proofs.Heads.{kind_is, sequence, equation, exists, expression}
use Rattle.verse_contexts.proofs.Walkings.{one_entry, no_entries, walk_none, walk_first, walk_equation, stray_equation, walk_second, stray_second, walk_exists, stray}
use Rattle.verse_contexts.proofs.Reaches.{reach, further}
use Rattle.verse_contexts.proofs.down.down.Goals as goal

pub loop-entry-init : goal.loop-entry-init
loop-entry-init c = λ t h s. reach (Walked (Goes c.args.way)) c.args.inner.now t c.args.expression h s

pub returns : goal.returns
returns c = λ t h s.
    let v = c.loop-entry.invariant t h s in
    v.onward (Some c.loop-entry.hole.at) (walk_none c.args.way c.loop-entry.left.now v.u c.loop-entry.hole.at (no_entries c.loop-entry.left.now c.in_default.ensures.cases) v.lawful)

pub returns-in_err-part : goal.returns-in_err-part
returns-in_err-part c = λ t h s.
    let v = c.loop-entry.invariant t h s in
    let hd = c.in_ok-c.ensures in
    let k = kind_is exp hd v.lawful v.stands in
    subst (Walked (Goes c.args.way) c.args.inner.now t c.args.expression.at) (sym c.from_residual-in_err-part.ensures) (v.onward None (stray c.args.way c.loop-entry.left.now v.u c.loop-entry.hole.at _ _ c.in-Some.ensures.cases.0 (λ a b. let q = sequence exp hd v.lawful v.stands (sym k ∙ a) in omega (arith, q.count, c.in_err-part.ensures)) (λ w a b. let q = exists exp hd v.lawful v.stands (sym k ∙ a) in omega (arith, q.count, c.in_err-part.ensures))))

-- no context of the kind begins so
pub returns-in_default-try_from : goal.returns-in_default-try_from
returns-in_default-try_from c = λ t h s.
    let v = c.loop-entry.invariant t h s in
    let hd = c.in_ok-c.ensures in
    let k = kind_is exp hd v.lawful v.stands in
    let l = c.in_default-try_from.ensures.1 in
    v.onward None (stray c.args.way c.loop-entry.left.now v.u c.loop-entry.hole.at _ _ c.in-Some.ensures.cases.0 (λ a b. omega (arith, a, k, l, c.kind.ensures)) (λ w a b. omega (arith, a, k, l, c.kind.ensures)))

pub returns-in_default-2-2 : goal.returns-in_default-2-2
returns-in_default-2-2 c = λ t h s.
    let v = c.loop-entry.invariant t h s in
    let hd = c.in_ok-c.ensures in
    let k : kind c.in_ok-c.c ≡ 6 = sym c.kind.ensures ∙ sym c.in-Ok.ensures ∙ ap number_of c.in_default-2.is-0 in
    let k' = kind_is exp hd v.lawful v.stands in
    v.onward None (stray c.args.way c.loop-entry.left.now v.u c.loop-entry.hole.at _ _ c.in-Some.ensures.cases.0 (λ a b. omega (arith, b, c.in_default-2.is-1)) (λ w a b. omega (arith, a, k, k')))

pub returns-in_default-2-3 : goal.returns-in_default-2-3
returns-in_default-2-3 c = λ t h s.
    let v = c.loop-entry.invariant t h s in
    let hd = c.in_ok-c.ensures in
    let k : kind c.in_ok-c.c ≡ 8 = sym c.kind.ensures ∙ sym c.in-Ok.ensures ∙ ap number_of c.in-Exists-eq0.is-0 in
    let k' = kind_is exp hd v.lawful v.stands in
    v.onward None (stray c.args.way c.loop-entry.left.now v.u c.loop-entry.hole.at _ _ c.in-Some.ensures.cases.0 (λ a b. omega (arith, a, k, k')) (λ w a b. false≢true (sym c.if-eq.false ∙ c.eq.ensures ∙ ap (λ x. sameb the_type x Choice) w)))

pub returns-in_default-2-4 : goal.returns-in_default-2-4
returns-in_default-2-4 c = λ t h s.
    let v = c.loop-entry.invariant t h s in
    let hd = c.in_ok-c.ensures in
    let k : kind c.in_ok-c.c ≡ 8 = sym c.kind.ensures ∙ sym c.in-Ok.ensures ∙ ap number_of c.in_default-2.is-0 in
    let k' = kind_is exp hd v.lawful v.stands in
    v.onward None (stray c.args.way c.loop-entry.left.now v.u c.loop-entry.hole.at _ _ c.in-Some.ensures.cases.0 (λ a b. omega (arith, a, k, k')) (λ w a b. omega (arith, b, c.in_default-2.is-1)))

pub returns-in_default-2-5 : goal.returns-in_default-2-5
returns-in_default-2-5 c = λ t h s.
    let v = c.loop-entry.invariant t h s in
    let hd = c.in_ok-c.ensures in
    let k = kind_is exp hd v.lawful v.stands in
    let z : number_of c.in-Ok.kind_of ≡ kind c.in_ok-c.c = c.in-Ok.ensures ∙ c.kind.ensures in
    v.onward None (stray c.args.way c.loop-entry.left.now v.u c.loop-entry.hole.at _ _ c.in-Some.ensures.cases.0 (λ a b. c.in_default-2.not-Sequence-0 (same_kind c.in-Ok.kind_of Sequence (z ∙ sym k ∙ a))) (λ w a b. c.in_default-2.not-Exists-0 (same_kind c.in-Ok.kind_of Exists (z ∙ sym k ∙ a))))

-- into the first part of a sequence
pub loop-entry-preserved-then-kind : goal.loop-entry-preserved-then-kind
loop-entry-preserved-then-kind c = λ t h s.
    let v = c.loop-entry.invariant t h s in
    let hd = c.in_ok-c.ensures in
    let k : kind c.in_ok-c.c ≡ 6 = sym c.kind.ensures ∙ sym c.in-Ok.ensures ∙ ap number_of c.in-Sequence-eq0.is-0 in
    let q = sequence exp hd v.lawful v.stands k in
    let a = q.first c.in_ok-part.part c.in_ok-part.ensures in
    let x = expression c.in_ok-head-in-Sequence-eq0.ensures q.left a (λ z. c.if-kind.true (c.kind-in-Sequence-eq0.ensures ∙ z)) in
    let i : c.loop-entry.left.now ≡ 0 ∷ c.in-Some.rest.now = c.in-Some.ensures.cases.0 ∙ ap (λ j. j ∷ c.in-Some.rest.now) c.in-Sequence-eq0.is-1 in
    further v x a (c.loop-entry.hole.at + 1) (c.in_ok-part.ensures.1.start ∙ hd.2.start) (walk_first c.args.way c.loop-entry.left.now v.u c.loop-entry.hole.at q.a q.b c.in-Some.rest.now i q.is x q.left q.right)

-- through an equation
pub returns-in_err-hole-in-1 : goal.returns-in_err-hole-in-1
returns-in_err-hole-in-1 c = λ t h s.
    let v = c.loop-entry.invariant t h s in
    let hd = c.in_ok-c.ensures in
    let k : kind c.in_ok-c.c ≡ 6 = sym c.kind.ensures ∙ sym c.in-Ok.ensures ∙ ap number_of c.in-Sequence-eq0.is-0 in
    let q = sequence exp hd v.lawful v.stands k in
    let a = q.first c.in_ok-part.part c.in_ok-part.ensures in
    let x = equation equ c.in_ok-head-in-Sequence-eq0.ensures q.left a (sym c.kind-in-Sequence-eq0.ensures ∙ c.if-kind.false) in
    absurd (omega (arith, x.count, c.in_err-hole-in-1.ensures))

pub loop-entry-preserved-in_ok-hole-in-1 : goal.loop-entry-preserved-in_ok-hole-in-1
loop-entry-preserved-in_ok-hole-in-1 c = λ t h s.
    let v = c.loop-entry.invariant t h s in
    let hd = c.in_ok-c.ensures in
    let k : kind c.in_ok-c.c ≡ 6 = sym c.kind.ensures ∙ sym c.in-Ok.ensures ∙ ap number_of c.in-Sequence-eq0.is-0 in
    let q = sequence exp hd v.lawful v.stands k in
    let a = q.first c.in_ok-part.part c.in_ok-part.ensures in
    let f = c.in_ok-head-in-Sequence-eq0.ensures in
    let x = equation equ f q.left a (sym c.kind-in-Sequence-eq0.ensures ∙ c.if-kind.false) in
    let b = x.second c.in_ok-hole-in-1.hole c.in_ok-hole-in-1.ensures in
    let e = x.after c.in_ok-hole-in-1.hole c.in_ok-hole-in-1.ensures in
    let rest = c.in-Some.rest.now in
    let deeper = take (length rest - 1) (drop 1 rest) in
    let y : get_or rest 0 0 ≡ 1 = omega arith in
    let i : c.loop-entry.left.now ≡ 0 ∷ 1 ∷ deeper = c.in-Some.ensures.cases.0 ∙ ap (λ j. j ∷ rest) c.in-Sequence-eq0.is-1 ∙ ap (λ l. 0 ∷ l) (one_entry rest c.in-1.len_at_least ∙ ap (λ j. j ∷ deeper) y) in
    further v x.right b (c.loop-entry.hole.at + 2 + size x.a) (omega (arith, e, f.2.start, c.in_ok-part.ensures.1.start, hd.2.start)) (walk_equation c.args.way c.loop-entry.left.now v.u c.loop-entry.hole.at x.a x.b q.b (q.is ∙ ap (λ y. seq y q.b) x.is) x.left deeper i q.right)

pub returns-in_default-rest : goal.returns-in_default-rest
returns-in_default-rest c = λ t h s.
    let v = c.loop-entry.invariant t h s in
    let hd = c.in_ok-c.ensures in
    let k : kind c.in_ok-c.c ≡ 6 = sym c.kind.ensures ∙ sym c.in-Ok.ensures ∙ ap number_of c.in-Sequence-eq0.is-0 in
    let q = sequence exp hd v.lawful v.stands k in
    let a = q.first c.in_ok-part.part c.in_ok-part.ensures in
    let x = equation equ c.in_ok-head-in-Sequence-eq0.ensures q.left a (sym c.kind-in-Sequence-eq0.ensures ∙ c.if-kind.false) in
    let i : c.loop-entry.left.now ≡ 0 ∷ c.in-Some.rest.now = c.in-Some.ensures.cases.0 ∙ ap (λ j. j ∷ c.in-Some.rest.now) c.in-Sequence-eq0.is-1 in
    v.onward None (stray_equation c.args.way c.loop-entry.left.now v.u c.loop-entry.hole.at x.a x.b q.b (q.is ∙ ap (λ y. seq y q.b) x.is) x.left c.in-Some.rest.now i (λ r e. omega (arith, ap length e, c.in_default-rest.len_below)))

pub returns-in_default-rest-2 : goal.returns-in_default-rest-2
returns-in_default-rest-2 c = λ t h s.
    let v = c.loop-entry.invariant t h s in
    let hd = c.in_ok-c.ensures in
    let k : kind c.in_ok-c.c ≡ 6 = sym c.kind.ensures ∙ sym c.in-Ok.ensures ∙ ap number_of c.in-Sequence-eq0.is-0 in
    let q = sequence exp hd v.lawful v.stands k in
    let a = q.first c.in_ok-part.part c.in_ok-part.ensures in
    let x = equation equ c.in_ok-head-in-Sequence-eq0.ensures q.left a (sym c.kind-in-Sequence-eq0.ensures ∙ c.if-kind.false) in
    let i : c.loop-entry.left.now ≡ 0 ∷ c.in-Some.rest.now = c.in-Some.ensures.cases.0 ∙ ap (λ j. j ∷ c.in-Some.rest.now) c.in-Sequence-eq0.is-1 in
    v.onward None (stray_equation c.args.way c.loop-entry.left.now v.u c.loop-entry.hole.at x.a x.b q.b (q.is ∙ ap (λ y. seq y q.b) x.is) x.left c.in-Some.rest.now i (λ r e. let z = ap (λ l. get_or l 0 0) e in omega arith))

-- into the second part
pub loop-entry-preserved-then-passes : goal.loop-entry-preserved-then-passes
loop-entry-preserved-then-passes c = λ t h s.
    let v = c.loop-entry.invariant t h s in
    let hd = c.in_ok-c.ensures in
    let k : kind c.in_ok-c.c ≡ 6 = sym c.kind.ensures ∙ sym c.in-Ok.ensures ∙ ap number_of c.in-Sequence-eq1.is-0 in
    let q = sequence exp hd v.lawful v.stands k in
    let a = q.first c.in_ok-part.part c.in_ok-part.ensures in
    let b = q.second c.in_ok-hole-in-Sequence-eq1.hole c.in_ok-hole-in-Sequence-eq1.ensures in
    let e = q.after c.in_ok-hole-in-Sequence-eq1.hole c.in_ok-hole-in-Sequence-eq1.ensures in
    let i : c.loop-entry.left.now ≡ 1 ∷ c.in-Some.rest.now = c.in-Some.ensures.cases.0 ∙ ap (λ j. j ∷ c.in-Some.rest.now) c.in-Sequence-eq1.is-1 in
    further v q.right b (c.loop-entry.hole.at + 1 + size q.a) (omega (arith, e, hd.2.start)) (walk_second c.args.way c.loop-entry.left.now v.u c.loop-entry.hole.at q.a q.b c.in-Some.rest.now i q.is q.left ((c.passes.ensures q.a a).0 c.if-passes.true))

pub returns-in_default-2 : goal.returns-in_default-2
returns-in_default-2 c = λ t h s.
    let v = c.loop-entry.invariant t h s in
    let hd = c.in_ok-c.ensures in
    let k : kind c.in_ok-c.c ≡ 6 = sym c.kind.ensures ∙ sym c.in-Ok.ensures ∙ ap number_of c.in-Sequence-eq1.is-0 in
    let q = sequence exp hd v.lawful v.stands k in
    let a = q.first c.in_ok-part.part c.in_ok-part.ensures in
    let i : c.loop-entry.left.now ≡ 1 ∷ c.in-Some.rest.now = c.in-Some.ensures.cases.0 ∙ ap (λ j. j ∷ c.in-Some.rest.now) c.in-Sequence-eq1.is-1 in
    v.onward None (stray_second c.args.way c.loop-entry.left.now v.u c.loop-entry.hole.at q.a q.b c.in-Some.rest.now i q.is q.left (λ g. false≢true (sym c.if-passes.false ∙ (c.passes.ensures q.a a).1 g)))

-- under an exists
pub loop-entry-preserved : goal.loop-entry-preserved
loop-entry-preserved c = λ t h s.
    let v = c.loop-entry.invariant t h s in
    let hd = c.in_ok-c.ensures in
    let k : kind c.in_ok-c.c ≡ 8 = sym c.kind.ensures ∙ sym c.in-Ok.ensures ∙ ap number_of c.in-Exists-eq0.is-0 in
    let q = exists exp hd v.lawful v.stands k in
    let a = q.first c.in_ok-part.part c.in_ok-part.ensures in
    let w : c.args.way ≡ Choice = same_true the_type (search rules) _ _ (sym c.eq.ensures ∙ c.if-eq.true) in
    let i : c.loop-entry.left.now ≡ 0 ∷ c.in-Some.rest.now = c.in-Some.ensures.cases.0 ∙ ap (λ j. j ∷ c.in-Some.rest.now) c.in-Exists-eq0.is-1 in
    further v q.lawful a (c.loop-entry.hole.at + 1) (c.in_ok-part.ensures.1.start ∙ hd.2.start) (walk_exists c.args.way c.loop-entry.left.now v.u c.loop-entry.hole.at q.a c.in-Some.rest.now w i q.is)
