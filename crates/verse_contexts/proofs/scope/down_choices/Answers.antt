use Rattle.std.proofs.Common.{◌≡◌, ◌+◌, [], ◌∷◌, None, sym, ap, ◌∙◌, arith}
use Rattle.terms.specs.Rows.{size, kind_of}
use Rattle.verse.specs.Contexts.{SC}
use Rattle.verse.specs.Syntax.Sort.{exp}
use Rattle.verse_contexts.specs.Scopes.{Branched}
use Rattle.verse_contexts.proofs.Heads.{kind_is, choice}
use Rattle.verse_contexts.proofs.Walkings.{no_entries}
use Rattle.verse_contexts.proofs.Branches.{branch_none, branch_left, branch_right, branch_stray}
use Rattle.verse_contexts.proofs.Reaches.{reach, further}
use Rattle.verse_contexts.proofs.scope.down_choices.Goals as goal

pub loop-entry-init : goal.loop-entry-init
loop-entry-init c = λ t h s. reach (Branched SC) c.args.inner.now t c.args.expression h s

pub returns-then-kind : goal.returns-then-kind
returns-then-kind c = λ t h s.
    let v = c.loop-entry.invariant t h s in
    let k = kind_is exp c.in_ok-c.ensures v.lawful v.stands in
    let n : (kind_of v.u ≡ 10 → c.loop-entry.left.now ≡ []) = λ e. absurd (c.if-kind.true (c.kind.ensures ∙ sym k ∙ e)) in
    v.onward c.down_choice.result (branch_none c.loop-entry.left.now v.u c.loop-entry.scope.at n c.down_choice.result (c.down_choice.ensures v.u v.lawful v.stands))

pub returns-in_err-scope-in-0 : goal.returns-in_err-scope-in-0
returns-in_err-scope-in-0 c = λ t h s.
    let v = c.loop-entry.invariant t h s in
    let q = choice exp c.in_ok-c.ensures v.lawful v.stands (sym c.kind.ensures ∙ c.if-kind.false) in
    absurd (omega (arith, q.count, c.in_err-scope-in-0.ensures))

pub loop-entry-preserved-in_ok-scope-in-0 : goal.loop-entry-preserved-in_ok-scope-in-0
loop-entry-preserved-in_ok-scope-in-0 c = λ t h s.
    let v = c.loop-entry.invariant t h s in
    let hd = c.in_ok-c.ensures in
    let q = choice exp hd v.lawful v.stands (sym c.kind.ensures ∙ c.if-kind.false) in
    let f = c.in_ok-scope-in-0.ensures in
    let a = q.first c.in_ok-scope-in-0.scope f in
    let rest = c.in-Some.rest.now in
    let i : c.loop-entry.left.now ≡ 0 ∷ rest = c.in-Some.ensures.cases.0 ∙ ap (λ j. j ∷ rest) c.in-0.is in
    further v q.left a (c.loop-entry.scope.at + 1) (f.1.start ∙ hd.2.start) (branch_left c.loop-entry.left.now v.u c.loop-entry.scope.at q.a q.b q.is q.left q.right rest i)

pub returns-in_err-scope-in-1 : goal.returns-in_err-scope-in-1
returns-in_err-scope-in-1 c = λ t h s.
    let v = c.loop-entry.invariant t h s in
    let q = choice exp c.in_ok-c.ensures v.lawful v.stands (sym c.kind.ensures ∙ c.if-kind.false) in
    absurd (omega (arith, q.count, c.in_err-scope-in-1.ensures))

pub loop-entry-preserved : goal.loop-entry-preserved
loop-entry-preserved c = λ t h s.
    let v = c.loop-entry.invariant t h s in
    let hd = c.in_ok-c.ensures in
    let q = choice exp hd v.lawful v.stands (sym c.kind.ensures ∙ c.if-kind.false) in
    let f = c.in_ok-scope-in-1.ensures in
    let b = q.second c.in_ok-scope-in-1.scope f in
    let e = q.after c.in_ok-scope-in-1.scope f in
    let rest = c.in-Some.rest.now in
    let i : c.loop-entry.left.now ≡ 1 ∷ rest = c.in-Some.ensures.cases.0 ∙ ap (λ j. j ∷ rest) c.in-1.is in
    further v q.right b (c.loop-entry.scope.at + 1 + size q.a) (omega (arith, e, hd.2.start)) (branch_right c.loop-entry.left.now v.u c.loop-entry.scope.at q.a q.b q.is q.left q.right rest i)

pub returns-in_default-entry : goal.returns-in_default-entry
returns-in_default-entry c = λ t h s.
    let v = c.loop-entry.invariant t h s in
    let q = choice exp c.in_ok-c.ensures v.lawful v.stands (sym c.kind.ensures ∙ c.if-kind.false) in
    v.onward None (branch_stray c.loop-entry.left.now v.u c.loop-entry.scope.at q.a q.b q.is q.left q.right c.in-Some.field-0-0.now c.in-Some.rest.now c.in-Some.ensures.cases.0 (omega arith))

pub returns : goal.returns
returns c = λ t h s.
    let v = c.loop-entry.invariant t h s in
    v.onward c.down_choice-2.result (branch_none c.loop-entry.left.now v.u c.loop-entry.scope.at (λ e. no_entries c.loop-entry.left.now c.in_default.ensures.cases) c.down_choice-2.result (c.down_choice-2.ensures v.u v.lawful v.stands))
