-- Where the redex of a step and what is given for it stand. Assumes nothing.
use Rattle.std.proofs.Common.{◌≡◌, ℕ, ◌+◌, ◌-◌, ◌<◌, ◌≤◌, List, ◌++◌, length, take, drop, Some, None, Option, Ok, Err, Result, sym, refl, ap, ◌∙◌, subst, inl, inr, append_assoc, arith, length-append}
use borrow.Rule.Slice.PartMut.{put_mid}
use lib.Seq.{paste}
use Rattle.std.proofs.lemmas.List.{take_at, drop_at, length-take-le, take-append-le}
use Rattle.std.proofs.lemmas.Slice.{take-put_mid}
use Rattle.std.proofs.lemmas.Bool.{cases_lt}
use Rattle.std.specs.Option.{IsSome}
use Rattle.std.specs.Result.{MatchResult, IsErrAnd}
use Rattle.terms.specs.Rows.{size, depth, pick}
use Rattle.terms.specs.Terms.{Deep, Laid}
use Rattle.terms.specs.Standing.{Stands, Ends}
use Rattle.terms.specs.Places.{CellAt, whole}
use Rattle.terms.proofs.Trees.{flat_size}
use Rattle.terms.proofs.Ways.{part_stands}
use Rattle.terms.proofs.Unique.{parts_join, one_depth}
use Rattle.terms.proofs.Standings.{stands_same}
use Rattle.calculus.specs.Meaning.{Meaning, Gives}
use Rattle.calculus.specs.Laws.{Laws}
use Rattle.calculus.specs.Answers.{Refused, StepAsked}
use Rattle.calculus.specs.Rewriting.{Rewritten}
use Rattle.calculus.proofs.Keeping.{steps_keep}
use Rattle.calculus.specs.declared.no.No.{No}
use Rattle.runs.specs.Questions.{FirstNo}
use Rattle.runs.specs.Steps.{Step, step_questions, Leads}
use Rattle.runs.specs.Rewriting.{Found, RewriteAsked}
use Rattle.runs.specs.declared.refusal.Refusal.{Refusal}
use Rattle.calculus.specs.declared.no.No.TheVariants as say
use Rattle.runs.specs.declared.refusal.Refusal.TheVariants as no
use Rattle.runs.proofs.Mapped.{mapped_ok, mapped_err}
use Rattle.runs.proofs.Plain.{says_no, too_long, too_deep, leads}

module _ (cells place : List ℕ) (at : ℕ) (k : CellAt cells place at) where
  -- the redex stands at its cell
  stands : Stands (pick k.at.tree 0 place) 1 cells at
  stands =
      subst (Stands (pick k.at.tree 0 place) 1 cells) (ap length (sym k.at.lefts) ∙ sym k.is) (part_stands cells k.at.tree place k.at.is k.at.there)

  -- so that it ends somewhere
  pub redex_ends : (end : Option ℕ) → Ends 1 cells at end → IsSome end
  redex_ends None astray = absurd (astray (pick k.at.tree 0 place) stands)
  redex_ends (Some e) h = refl

  module _ (end : ℕ) (e : Ends 1 cells at (Some end)) where
    join : cells ≡ (k.left ++ k.part) ++ k.right
    join = parts_join cells place k.left k.part k.right k.at ∙ sym (append_assoc k.left k.part k.right)

    out : length (k.left ++ k.part) ≡ end
    out =
        let long : size e.0 ≡ length k.part = ap size (stands_same e.1 stands) ∙ sym (flat_size (pick k.at.tree 0 place)) ∙ ap length (sym k.at.parts) in
        length-append k.left k.part ∙ omega (arith, long, e.2, k.is)

    pub within : end ≤ length cells
    within = let o = out in omega (arith, o, ap length join, length-append (k.left ++ k.part) k.right)

    pub found : (m : Meaning) (front left redex right : List ℕ) → m.site place cells → front ≡ take end cells → right ≡ drop end cells → left ≡ take at front → redex ≡ drop at front → Found m cells place left redex right
    found m front left redex right site f g h i =
        let fronts : front ≡ k.left ++ k.part = f ∙ ap (take end) join ∙ take_at (k.left ++ k.part) k.right end out in
        let lefts : left ≡ k.left = h ∙ ap (take at) fronts ∙ take_at k.left k.part at (sym k.is) in
        let parts : redex ≡ k.part = i ∙ ap (drop at) fronts ∙ drop_at k.left k.part at (sym k.is) in
        let rights : right ≡ k.right = g ∙ ap (drop end) join ∙ drop_at (k.left ++ k.part) k.right end out in
        record {
          there =
              record { tree = k.at.tree; is = k.at.is; there = k.at.there; lefts = lefts ∙ k.at.lefts; parts = parts ∙ k.at.parts; rights = rights ∙ k.at.rights };
          site = site;
        }

module _ (m : Meaning) (laws : Laws m) (cells : List ℕ) (s : Step) (left redex right : List ℕ) (f : Found m cells s.place left redex right) where
  -- what the calculus says with a space, and how its no is told
  module _ (space space' : List ℕ) (r : Result ℕ No) (q : Result ℕ Refusal) (P : No → Refusal → Type 0) (said : StepAsked m s.rule s.argument s.inner redex space space' r) (told : MatchResult r (λ n. q ≡ Ok n) (λ e. IsErrAnd q (P e))) where
    -- what is given stands at the front
    pub given_stands : (n : ℕ) → q ≡ Ok n → Gives m s.rule s.argument s.inner redex (take n space') × (n ≤ length space)
    given_stands n is =
        let w = rw (mapped_ok P r q n told is) at said in
        let there : take n space' ≡ w.result = ap (take n) w.writes ∙ take_at w.result (drop (length w.result) space) n (sym w.length_is) in
        (subst (Gives m s.rule s.argument s.inner redex) (sym there) w.gives, omega (arith, w.enough, w.length_is))

    -- 10 to 15, with a space of 2,048 cells
    pub given_no : (y : Refusal) → q ≡ Err y → length space ≡ 2048 → ((e : No) (d : Refusal) → P e d → d ≡ no.Calculus e (length left)) → FirstNo (step_questions m cells s) y
    given_no y is room cause =
        let p = mapped_err P r q y told is in
        let w = rw p.1 at said in
        rw (cause p.0 y p.2) (says_no m laws cells s left redex right f.there f.site p.0 (subst (λ n. Refused m s.rule s.argument s.inner redex n p.0) room w.1))

  module _ (n : ℕ) (u : List ℕ) (g : Gives m s.rule s.argument s.inner redex u) (long : length u ≡ n) where
    abbrev all : List ℕ
    all = whole left u right

    -- the cells of the whole
    count : length all ≡ length left + n + length right
    count = omega (arith, long, length-append left (u ++ right), length-append u right)

    -- 15
    pub over_long : 2048 < length left + n + length right → FirstNo (step_questions m cells s) (no.Calculus say.Overlong (length left))
    over_long h = too_long m laws cells s left redex right f.there f.site u g (let e = count in omega (arith, e))

    module _ (lay : Laid cells) (short : length left + n + length right ≤ 2048) (to : List ℕ) (is : to ≡ all) where
      few : length all ≤ 2048
      few = let e = count in omega (arith, e)

      rewritten : Rewritten m s.rule s.argument cells s.place s.inner to
      rewritten =
          record { left = left; redex = redex; right = right; site = f.site; at = f.there; result = u; gives = g; few = omega (arith, long); is = is }

      -- 16: the whole keeps the layout
      pub leads_there : Laid to → Leads m cells s to
      leads_there l =
          let deep : Deep to (depth l.tree) = record { tree = l.tree; is = l.is; deep = refl } in
          subst (Leads m cells s) (sym is) (leads m laws cells s left redex right f.there f.site u g few (depth l.tree) (subst (λ t. Deep t (depth l.tree)) is deep) l.shallow)

      stays : m.lawful to
      stays = (steps_keep m laws).lawful s.rule s.argument cells s.place s.inner to rewritten

      -- or is too deep, since nothing else can be wrong with it
      pub over_deep : (Laid to → ⊥) → FirstNo (step_questions m cells s) (no.TooDeep (length left))
      over_deep no-layout =
          let form = laws.formed to stays in
          let d = depth form.tree in
          let deep : Deep to d = record { tree = form.tree; is = form.is; deep = refl } in
          let fits : length to ≤ 2048 = let e = few in omega (arith, e, ap length is) in
          let laid : d ≤ 256 → Laid to = λ low. (steps_keep m laws).laid s.rule s.argument cells s.place s.inner to rewritten lay fits (λ k h. let e = one_depth to k d h deep in omega (arith, e, low)) in
          let high : 256 < d = elim (cases_lt 256 d) [ inl h ↦ h | inr low ↦ absurd (no-layout (laid low)) ] in
          too_deep m laws cells s left redex right f.there f.site u g few d (subst (λ w. Deep w d) is deep) high

-- Cells that stand at the front are moved on, and those left and right of the redex put around them.
pub surrounded : (l x r space w : List ℕ) (at n k : ℕ) → length l ≡ at → length x ≡ n → at ≤ length space → w ≡ (take at space ++ x) ++ drop (at + n) space → take (at + n + length r) (put_mid (at + n) k (l ++ drop at w) r) ≡ whole l x r
surrounded l x r space w at n k a b within is =
    let rest = drop (at + n) space in
    let moved : drop at w ≡ x ++ rest = ap (drop at) (is ∙ append_assoc (take at space) x rest) ∙ drop_at (take at space) (x ++ rest) at (length-take-le at space within) in
    let both : l ++ drop at w ≡ (l ++ x) ++ rest = ap (λ y. l ++ y) moved ∙ sym (append_assoc l x rest) in
    let long : length (l ++ x) ≡ at + n = length-append l x ∙ omega (arith, a, b) in
    let front : take (at + n) (l ++ drop at w) ≡ l ++ x = ap (take (at + n)) both ∙ take_at (l ++ x) rest (at + n) long in
    let room : at + n ≤ length (l ++ drop at w) = omega (arith, ap length both, length-append (l ++ x) rest, long) in
    take-put_mid (at + n) k (l ++ drop at w) r (at + n + length r) refl room ∙ ap (λ y. y ++ r) front ∙ append_assoc l x r

pub surround_is : (space w u l v r : List ℕ) (n k : ℕ) → length l + n + length r ≤ length space → w ≡ paste space (length l) space (n - 0) → u ≡ l → v ≡ r → take (length l + n + length r) (put_mid (length l + n) k (u ++ drop (length l) w) v) ≡ whole l (take n space) r
surround_is space w u l v r n k room pasted lefts rights =
    let n-is : n - 0 ≡ n = omega arith in
    let w-is : w ≡ (take (length l) space ++ take n space) ++ drop (length l + n) space = pasted ∙ ap (paste space (length l) space) n-is in
    let wide : length (take n space) ≡ n = length-take-le n space (omega arith) in
    rw (lefts, rights) (surrounded l (take n space) r space w (length l) n k refl wide (omega arith) w-is)

-- what stands at the front of a space stands there in a longer one
pub longer : (m : Meaning) (cells : List ℕ) (s : Step) (front rest : List ℕ) (r : Result ℕ Refusal) → 2048 ≤ length front → RewriteAsked m cells s front r → RewriteAsked m cells s (front ++ rest) r
longer m cells s front rest (Ok n) k h = (subst (Leads m cells s) (sym (take-append-le n front rest (omega (arith, h.1, k)))) h.0, h.1)
longer m cells s front rest (Err e) k h = h
