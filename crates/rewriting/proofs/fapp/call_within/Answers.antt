use Rattle.std.proofs.Common.{rules, ◌≡◌, ℕ, ◌+◌, ◌-◌, ◌≤◌, ◌⊎◌, false, get_or, length, take, drop, None, Some, refl, sym, ap, ◌∙◌, subst, arith}
use Rattle.std.proofs.lemmas.Bool.Decides.{not_from_Decides}
use Rattle.std.proofs.lemmas.List.{length-take-le}
use Rattle.terms.specs.Cells.{kind, children, payload}
use Rattle.terms.specs.Rows.{Row, flat, size, substitute}
use Rattle.calculus.specs.declared.no.No.TheVariants.{Formless}
use Rattle.moves.specs.Substitutions.{Put}
use Rattle.lets.specs.Syntax.{light, ProgramRule}
use Rattle.lets.specs.Figure.{Called, binding, fapp}
use Rattle.rewriting.specs.Matchings.{Facing, Bound, Matched}
use Rattle.rewriting.proofs.Standings.{TermAt, spelled}
use Rattle.rewriting.proofs.Callings.{Parted, Applied, left_at, parted, applied, facing, calls_head, called_match, called, gives_right, enough}
use Rattle.rewriting.proofs.Givens.{bound_front, given, shows_given, given_same}
use Rattle.rewriting.proofs.Redexes.{spelling, at_front}
use Rattle.rewriting.proofs.Steps.{ok_or_err, ok_or_ok, put_row}
use Rattle.rewriting.proofs.fapp.call_within.Goals as goal
use Rattle.rewriting.proofs.fapp.call_within.Goals.{Else-not-calls, In_ok-n}

-- the parts of the rule, whatever program rule it is
parts : (c : goal.Else-not-calls) {ρ : Row} → ProgramRule ρ → flat ρ ≡ c.args.rule.now → Parted ρ c.args.rule.now c.args.right
parts c g e = parted g e c.args.right (c.requires.right_side g.l (left_at g e))

-- the first cell calls the head of the rule
calling : (c : goal.Else-not-calls) {t ρ : Row} (s : TermAt t c.args.redex.cells.now 0) (q : Parted ρ c.args.rule.now c.args.right) → Applied t c.args.redex.cells.now q.f q.p
calling c s q =
    applied s q (subst (λ h. ((kind h ≡ 33) ⊎ (kind h ≡ 34)) × (payload h ≡ payload (get_or c.args.rule.now 1 0)) × (children h ≡ children (get_or c.args.rule.now 1 0))) c.head.ensures (c.calls.ensures.0 c.if-not-calls.false))

-- the patterns face the terms of the redex
faced : (c : goal.Else-not-calls) {t ρ : Row} (s : TermAt t c.args.redex.cells.now 0) (q : Parted ρ c.args.rule.now c.args.right) → Facing q.p (calling c s q).ts (take (c.args.right - 2) (drop 2 c.args.rule.now)) (take (length c.args.redex.cells.now - 1) (drop 1 c.args.redex.cells.now)) (length c.args.values.now)
faced c s q = facing s q (calling c s q) _ _ _ refl refl (enough q _ c.requires.room)

-- the bindings that were found
found : (c : goal.In_ok-n) {t ρ : Row} (s : TermAt t c.args.redex.cells.now 0) (q : Parted ρ c.args.rule.now c.args.right) → Matched q.p (calling (goal.at-In_ok-n c).Else-not-calls s q).ts c.match_left.new.values (Some c.in_ok-n.n)
found c s q =
    let d = (goal.at-In_ok-n c).Else-not-calls in
    subst (Matched q.p (calling d s q).ts c.match_left.new.values) (ok_or_ok c.match_left.result Formless c.ok_or.ensures.value c.in_ok-n.was) (c.match_left.ensures q.p (calling d s q).ts (faced d s q))

pub returns-then-not-calls : goal.returns-then-not-calls
returns-then-not-calls c = λ program argument o t h e.
    let q = parted o.0 o.1 (1 + size o.0.l) refl in
    let s = spelled t h e in
    (refl, λ l. not_from_Decides _ c.calls.ensures c.if-not-calls.true (subst (λ h. ((kind h ≡ 33) ⊎ (kind h ≡ 34)) × (payload h ≡ payload (get_or c.args.rule.now 1 0)) × (children h ≡ children (get_or c.args.rule.now 1 0))) (sym c.head.ensures) (calls_head s q program argument refl l)))

pub slice_bounds-match_left-count : goal.slice_bounds-match_left-count
slice_bounds-match_left-count c =
    let q = parts (goal.at.slice_bounds-match_left-count c).Else-not-calls c.requires.spelled.lawful c.requires.spelled.reads in
    let z = q.right_is in omega arith

pub slice_bounds-match_left-start : goal.slice_bounds-match_left-start
slice_bounds-match_left-start c =
    let q = parts (goal.at.slice_bounds-match_left-start c).Else-not-calls c.requires.spelled.lawful c.requires.spelled.reads in
    let z = q.right_is in let w = q.within in omega arith

pub slice_bounds-match_left-end : goal.slice_bounds-match_left-end
slice_bounds-match_left-end c =
    let q = parts (goal.at.slice_bounds-match_left-end c).Else-not-calls c.requires.spelled.lawful c.requires.spelled.reads in
    let w = q.within in omega arith

pub match_left-requires : goal.match_left-requires
match_left-requires c =
    let d = (goal.at.match_left-requires c).Else-not-calls in
    let q = parts d c.requires.spelled.lawful c.requires.spelled.reads in
    let s = at_front (spelling c.args.redex.lawful) in
    (q.p, (calling d s q).ts, faced d s q)

pub returns-in_err-n : goal.returns-in_err-n
returns-in_err-n c = λ program argument o t h e.
    let d = (goal.at.returns-in_err-n c).Else-not-calls in
    let q = parts d o.0 o.1 in
    let s = spelled t h e in
    let bad = ok_or_err c.match_left.result Formless c.ok_or.ensures.value c.in_err-n.was in
    let bad_is = bad.0 in
    let no_match : Matched q.p (calling d s q).ts c.match_left.new.values None =
    subst (Matched q.p (calling d s q).ts c.match_left.new.values) bad.1 (c.match_left.ensures q.p (calling d s q).ts (faced d s q)) in
    let none_there : (Called program argument t → ⊥) = λ l. no_match l.θ (called_match s q program argument refl (calling d s q) l).1 in
    search rules

-- the values have room for them
roomy : (c : goal.In_ok-n) {t ρ : Row} (s : TermAt t c.args.redex.cells.now 0) (q : Parted ρ c.args.rule.now c.args.right) → c.in_ok-n.n ≤ length c.match_left.new.values
roomy c s q =
    let m = (found c s q).0 in
    let few = enough q _ c.requires.room in
    omega arith

pub slice_bounds-bound-end : goal.slice_bounds-bound-end
slice_bounds-bound-end c =
    let q = parts (goal.at.slice_bounds-bound-end c).Else-not-calls c.requires.spelled.lawful c.requires.spelled.reads in
    roomy (goal.at.slice_bounds-bound-end c).In_ok-n (at_front (spelling c.args.redex.lawful)) q

pub slice_bounds-bound-end-2 : goal.slice_bounds-bound-end-2
slice_bounds-bound-end-2 c =
    let q = parts (goal.at.slice_bounds-bound-end-2 c).Else-not-calls c.requires.spelled.lawful c.requires.spelled.reads in
    sym (length-take-le c.in_ok-n.n c.match_left.new.values (roomy (goal.at.slice_bounds-bound-end-2 c).In_ok-n (at_front (spelling c.args.redex.lawful)) q))

-- these bindings, as the code has them
bound : (c : goal.In_ok-n) {t ρ : Row} (s : TermAt t c.args.redex.cells.now 0) (q : Parted ρ c.args.rule.now c.args.right) → Bound (found c s q).1.0 (length (take c.in_ok-n.n c.match_left.new.values)) (take c.in_ok-n.n c.match_left.new.values)
bound c s q =
    let m = found c s q in
    bound_front c.in_ok-n.n refl (omega (arith, m.0, roomy c s q)) m.1.1

pub invariant_of-right : goal.invariant_of-right
invariant_of-right c =
    let q = parts (goal.at.invariant_of-right c).Else-not-calls c.requires.spelled.lawful c.requires.spelled.reads in
    record { standing = ∣ (_, q.right_at.stands) ∣₁ }

pub returns-then-not-are_light : goal.returns-then-not-are_light
returns-then-not-are_light c = λ program argument o t h e.
    let k = (goal.at.returns-then-not-are_light c).In_ok-n in
    let d = (goal.at.returns-then-not-are_light c).Else-not-calls in
    let q = parts d o.0 o.1 in
    let s = spelled t h e in
    let a = calling d s q in
    let m = found k s q in
    let θ = m.1.0 in
    let heavy : false ≡ light θ = c.if-not-are_light.ensures θ (bound k s q) in (
      refl,
      (
        called s q program argument refl a θ m.0 m.1.1 m.1.2,
        λ l yes.
            let w = called_match s q program argument refl a l in
            let same : l.θ ≡ θ = m.1.3 l.θ (w.0 ∙ sym m.0) w.1 in
            let lights = ap light same in
            let z : ◌≡◌ {A = ℕ} 0 1 = cc (heavy, lights, yes) in
            omega arith,
      ),
    )

pub substitute-requires : goal.substitute-requires
substitute-requires c =
    let k = (goal.at.substitute-requires c).In_ok-n in
    let q = parts (goal.at.substitute-requires c).Else-not-calls c.requires.spelled.lawful c.requires.spelled.reads in
    (_, shows_given c.bindings.ensures (bound k (at_front (spelling c.args.redex.lawful)) q))

pub returns : goal.returns
returns c = λ program argument o t h e.
    let k = (goal.at.returns c).In_ok-n in
    let d = (goal.at.returns c).Else-not-calls in
    let q = parts d o.0 o.1 in
    let s = spelled t h e in
    let a = calling d s q in
    let m = found k s q in
    let θ = m.1.0 in
    let b = bound k s q in
    let same = given_same θ (length (take c.in_ok-n.n c.match_left.new.values)) q.r (λ x w. omega (arith, q.below x w, m.0, b.wide, m.1.1.wide)) in
    let put = c.substitute.ensures q.r (given θ (length (take c.in_ok-n.n c.match_left.new.values))) q.right_at.stands (shows_given c.bindings.ensures b) in
    put_row (fapp program argument t) _ _ (substitute (binding θ) 0 0 q.r) (gives_right s q program argument refl a θ m.0 m.1.1 m.1.2 (sym (c.if-not-are_light.ensures θ b))) _ c.ok_or-2.ensures.value (subst (λ u. Put u c.args.space.now c.substitute.new.out c.substitute.result) same put)
