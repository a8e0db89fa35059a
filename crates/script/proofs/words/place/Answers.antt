use Rattle.std.proofs.Common.{subst, arith, rules}
use Rattle.std.proofs.lemmas.List.{length_push}
use Rattle.std.proofs.lemmas.Iterator.Consumers.{YieldsList-turn, YieldsList-end, YieldsList-at}
use Rattle.std.proofs.lemmas.Iterator.Splits.{YieldsList-from_str_split}
use Rattle.script.specs.Words.{parts_of}
use Rattle.script.proofs.Reading.{ReadTo, bad_text, one_read, all_read, not_place}
use Rattle.script.proofs.words.place.Goals as goal

pub returns-in_err-parse : goal.returns-in_err-parse
returns-in_err-parse c =
    let s = c.split-entry-items.ensures in
    let parts = YieldsList-at c.into_iter-entry-iterator.ensures.into_iter_gives (YieldsList-from_str_split 46 c.args.word.now (omega arith) s.text s.has_more s.pattern) in
    let t = YieldsList-turn parts c.loop-entry.yielded _ c.loop-entry.yielded_by _ _ c.in-Some.entry c.in-Some.is c.next.ensures.steps in
    bad_text c.from_residual.result _ c.from_residual.ensures.0 (not_place c.args.word.now _ c.in-Some.entry.now (search rules) t (search rules))

pub loop-entry-preserved : goal.loop-entry-preserved
loop-entry-preserved c =
    let s = c.split-entry-items.ensures in
    let parts = YieldsList-at c.into_iter-entry-iterator.ensures.into_iter_gives (YieldsList-from_str_split 46 c.args.word.now (omega arith) s.text s.has_more s.pattern) in
    let t = YieldsList-turn parts c.loop-entry.yielded _ c.loop-entry.yielded_by _ _ c.in-Some.entry c.in-Some.is c.next.ensures.steps in
    one_read (parts_of c.args.word.now) _ _ _ _ _ c.in-Some.entry.now c.in_ok-parse.field-0 c.loop-entry.invariant t (search rules) (length_push c.loop-entry.yielded c.in-Some.entry) (search rules) (search rules)

pub returns : goal.returns
returns c =
    let s = c.split-entry-items.ensures in
    let parts = YieldsList-at c.into_iter-entry-iterator.ensures.into_iter_gives (YieldsList-from_str_split 46 c.args.word.now (omega arith) s.text s.has_more s.pattern) in
    let t = YieldsList-end parts c.loop-entry.yielded _ c.loop-entry.yielded_by _ _ c.in-None.is c.next.ensures.steps in
    all_read c.args.word.now _ _ _ _ (search rules) (subst (λ n. ReadTo (parts_of c.args.word.now) n c.args.entries.now.items c.loop-entry.entries.items) t.1 c.loop-entry.invariant) (search rules) (search rules)
