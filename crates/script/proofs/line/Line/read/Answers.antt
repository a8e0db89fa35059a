use Rattle.std.proofs.Common.{◌++◌, ◌∙◌, sym, refl, ap, subst, rules}
use Rattle.script.specs.Part.{behind, Puts}
use Rattle.script.specs.Words.{word, AreCells, cells_of, entries_of}
use Rattle.script.proofs.Reading.{rest}
use Rattle.script.proofs.Lines.{opens, steps, settles, carried, same_step, same_settle}
use Rattle.script.specs.declared.line.Line.TheVariants.{Open}
use Rattle.script.proofs.line.Line.read.Goals as goal

pub returns-in_err-cells-in-open : goal.returns-in_err-cells-in-open
returns-in_err-cells-in-open c =
    opens _ _ _ _ _ _ (search rules) (λ f. carried _ _ c.in_err-cells-in-open.field-0.0 (search rules) c.in_err-cells-in-open.ensures (λ p. subst AreCells (sym (rest c.args.words.now 1)) p))

pub returns-in_ok-cells-in-open : goal.returns-in_ok-cells-in-open
returns-in_ok-cells-in-open c =
    let p = subst (λ w. AreCells w × Puts (cells_of w) c.args.cells.now.items c.cells-in-open.new.cells.items c.in_ok-cells-in-open.field-0) (rest c.args.words.now 1) c.in_ok-cells-in-open.ensures in
    opens _ _ _ _ _ _ (search rules) (λ f. (p.0, (ap Open p.1.1, p.1.0, refl)))

pub returns-in_ok-place-in-step-2 : goal.returns-in_ok-place-in-step-2
returns-in_ok-place-in-step-2 c =
    let p = c.in_ok-place-in-step.ensures in
    let q = c.in_ok-place-in-step-2.ensures in
    let inner = entries_of (word c.args.words.now 4) in
    steps _ _ _ _ _ _ (search rules) (λ f. (
      (search rules, search rules, p.0, q.0),
      (same_step _ _ _ _ _ _ _ _ (search rules) (search rules) p.1.1 (q.1.1 ∙ ap (λ l. behind l inner) p.1.0), q.1.0 ∙ ap (λ l. l ++ inner) p.1.0, refl),
    ))

pub returns-in_err-cells-in-settle : goal.returns-in_err-cells-in-settle
returns-in_err-cells-in-settle c =
    settles _ _ _ _ _ _ (search rules) (λ f. carried _ _ c.in_err-cells-in-settle.field-0.0 (search rules) c.in_err-cells-in-settle.ensures (λ p. subst AreCells (sym (rest c.args.words.now 2)) p.1))

pub returns-in_ok-cells-in-settle : goal.returns-in_ok-cells-in-settle
returns-in_ok-cells-in-settle c =
    let p = subst (λ w. AreCells w × Puts (cells_of w) c.args.cells.now.items c.cells.new.cells.items c.in_ok-cells-in-settle.field-0) (rest c.args.words.now 2) c.in_ok-cells-in-settle.ensures in
    settles _ _ _ _ _ _ (search rules) (λ f. ((search rules, p.0), (same_settle _ _ _ _ (search rules) p.1.1, p.1.0, refl)))

pub returns-in_default : goal.returns-in_default
returns-in_default c = record {
  memory = search rules;
  opening = search rules;
  step = search rules;
  settle = search rules;
  withdraw = search rules;
  tell = search rules;
  table = search rules;
  others = search rules;
}
