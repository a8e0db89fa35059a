-- The facts on cells, trees and places together.
use Rattle.std.proofs.Common.{◌≡◌, ℕ, List, [], ◌++◌, length, Ok, Err, Result, sym, ap, ◌∙◌, append-nil}
use Rattle.terms.specs.Rows.{Row, flat}
use Rattle.terms.specs.Terms.{TreeOf}
use Rattle.terms.specs.Layout.{LayoutJudged}
use Rattle.terms.specs.Facts.{TermFacts}
use Rattle.terms.proofs.Trees.{flat_size, same}
use Rattle.terms.proofs.Unique.{one_tree, one_depth, one_part, one_stray, one_break, parts_join}
use Rattle.terms.proofs.Wholes.{whole_tree, part_tree, whole_free}
use Rattle.terms.proofs.Walks.{laid_right}
use Rattle.terms.proofs.Builds.{right_laid, laid_ends}

no_front : (cells more : List ℕ) (s t : Row) → TreeOf cells s → TreeOf (cells ++ more) t → more ≡ []
no_front cells more s t a b =
    (same s t more [] a.counted b.counted (a.one ∙ sym b.one) (ap (λ l. l ++ more) a.reads ∙ sym b.reads ∙ sym (append-nil (flat t)))).1

one_answer : (cells : List ℕ) (a b : Result (ℕ × ℕ) ℕ) → LayoutJudged cells a → LayoutJudged cells b → a ≡ b
one_answer cells (Ok v) (Ok w) p q =
    ap (λ n. Ok (n, v.1)) (p.count ∙ sym q.count) ∙ ap (λ d. Ok (w.0, d)) (one_depth cells v.1 w.1 p.depth q.depth)
one_answer cells (Ok v) (Err j) p q = absurd (q.broken p.layout)
one_answer cells (Err i) (Ok w) p q = absurd (p.broken q.layout)
one_answer cells (Err i) (Err j) p q = ap Err (one_break cells i j p q)

pub term_facts : TermFacts
term_facts =
    record {
      one_tree = one_tree;
      no_front = no_front;
      sized = λ cells t is. sym (flat_size t) ∙ ap length is.reads;
      one_depth = one_depth;
      one_part = one_part;
      joined = parts_join;
      part = part_tree;
      one_stray = one_stray;
      put_there = λ cells place l p r new a t is. whole_tree cells place l p r new a t is;
      put_free = whole_free;
      laid_if = right_laid;
      laid_only_if = λ cells lay. (λ i. laid_right cells i lay, laid_ends cells lay);
      one_answer = one_answer;
    }
