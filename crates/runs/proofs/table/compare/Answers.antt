use Rattle.std.proofs.Common.{◌≡◌, ℕ, ◌≢◌, rules}
use borrow.Author.Tests.{tests}
use Rattle.std.proofs.lemmas.Iterator.{IsFirst-from_position, YieldsList-from_slice, YieldsList-from_zip}
use Rattle.runs.proofs.Tables.{differ_at, none_differs}
use Rattle.runs.proofs.table.compare.Goals as goal

pub returns-in-Some : goal.returns-in-Some
returns-in-Some c =
    let h = IsFirst-from_position c.position.new.self _ c.position.result (λ (p : ℕ × ℕ). p.0 ≢ p.1) (λ (p : ℕ × ℕ). p.0 ≡ p.1) c.position.ensures.ran (YieldsList-from_zip (YieldsList-from_slice c.args.term.now cc) (YieldsList-from_slice c.args.claim.now cc)) (λ x q k. search (rules, tests)) (λ x q k. search (rules, tests)) in
    differ_at c.args.claim.now c.args.term.now c.requires.claim c.requires.term c.in-Some.i (rw c.in-Some.is at h)

pub returns-in-None : goal.returns-in-None
returns-in-None c =
    let h = IsFirst-from_position c.position.new.self _ c.position.result (λ (p : ℕ × ℕ). p.0 ≢ p.1) (λ (p : ℕ × ℕ). p.0 ≡ p.1) c.position.ensures.ran (YieldsList-from_zip (YieldsList-from_slice c.args.term.now cc) (YieldsList-from_slice c.args.claim.now cc)) (λ x q k. search (rules, tests)) (λ x q k. search (rules, tests)) in
    none_differs c.args.claim.now c.args.term.now c.requires.claim c.requires.term (rw c.in-None.is at h)
