use Rattle.std.proofs.Common.{refl, ap, ◌∙◌}
use Rattle.terms.specs.Rows.{◌&◌}
use Rattle.terms.specs.Rows.Row.{none, node}
use Rattle.verse.specs.Syntax.{app, tuple, int}
use Rattle.verse.specs.Syntax.Sort.{val, exp}
use Rattle.verse_rules.specs.Reads.{Operands, both}
use Rattle.verse_rules.proofs.Lawfuls.{erred, whole_reads}
use Rattle.verse_rules.proofs.Sames.{same_two}
use Rattle.verse_rules.proofs.forms.operands.Goals as goal

pub returns-in_err-f : goal.returns-in_err-f
returns-in_err-f c = λ t h e.
    let n = c.in_err-f.ensures exp t (whole_reads h e) in
    erred (Operands c.args.operator t) _ _ c.from_residual.ensures.1 n.0 (refl, λ l. n.1 (node c.args.operator none none) (tuple (int l.k₁ & int l.k₂)) l.is)

pub returns-in_err-exactly : goal.returns-in_err-exactly
returns-in_err-exactly c = λ t h e.
    let p = c.in_ok-f.ensures exp t (whole_reads h e) in
    let n = c.in_err-exactly.ensures val p.0 p.3 in
    erred (Operands c.args.operator t) _ _ c.from_residual-in_err-exactly.ensures.1 n.0 (refl, λ l. n.1 (same_two (node c.args.operator none none) (tuple (int l.k₁ & int l.k₂)) p.2 p.3 l.is refl).0)

pub returns-in_err-a : goal.returns-in_err-a
returns-in_err-a c = λ t h e.
    let p = c.in_ok-f.ensures exp t (whole_reads h e) in
    let n = c.in_err-a.ensures val p.1 p.4 in
    erred (Operands c.args.operator t) _ _ c.from_residual-in_err-a.ensures.1 n.0 (refl, λ l. n.1 (int l.k₁) (int l.k₂) (same_two (node c.args.operator none none) (tuple (int l.k₁ & int l.k₂)) p.2 p.3 l.is refl).1)

pub returns-in_err-m : goal.returns-in_err-m
returns-in_err-m c = λ t h e.
    let p = c.in_ok-f.ensures exp t (whole_reads h e) in
    let q = c.in_ok-a.ensures val p.1 p.4 in
    let n = c.in_err-m.ensures val q.0 q.3 in
    erred (Operands c.args.operator t) _ _ c.from_residual-in_err-m.ensures.1 n.0 (refl, λ l. n.1 l.k₁ l.letters.0 (same_two (int l.k₁) (int l.k₂) q.2 q.3 (same_two (node c.args.operator none none) (tuple (int l.k₁ & int l.k₂)) p.2 p.3 l.is refl).1 refl).0)

pub returns-in_err-n : goal.returns-in_err-n
returns-in_err-n c = λ t h e.
    let p = c.in_ok-f.ensures exp t (whole_reads h e) in
    let q = c.in_ok-a.ensures val p.1 p.4 in
    let n = c.in_err-n.ensures val q.1 q.4 in
    erred (Operands c.args.operator t) _ _ c.from_residual-in_err-n.ensures.1 n.0 (refl, λ l. n.1 l.k₂ l.letters.1 (same_two (int l.k₁) (int l.k₂) q.2 q.3 (same_two (node c.args.operator none none) (tuple (int l.k₁ & int l.k₂)) p.2 p.3 l.is refl).1 refl).1)

pub returns : goal.returns
returns c = λ t h e.
    let p = c.in_ok-f.ensures exp t (whole_reads h e) in
    let q = c.in_ok-a.ensures val p.1 p.4 in
    let f = c.in_ok-exactly.ensures val p.0 p.3 in
    let m = c.in_ok-m.ensures val q.0 q.3 in
    let n = c.in_ok-n.ensures val q.1 q.4 in
    (m.0, n.0, p.2 ∙ ap (λ x. app x p.1) f ∙ ap (app (node c.args.operator none none)) (q.2 ∙ ap (λ x. both x q.1) m.1 ∙ ap (both (int c.in_ok-m.m)) n.1))
