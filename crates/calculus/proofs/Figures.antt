-- The laws of the meaning of a figure, from what the figure owes. Assumes nothing.
use Rattle.std.proofs.Common.{◌≡◌, ℕ, ◌≤◌, List, length, Ok, Err, Result, sym, ap, ◌∙◌, subst, inl, inr, arith}
use Rattle.terms.specs.Rows.{Row, flat, size, put}
use Rattle.terms.specs.Rows.Row.{none}
use Rattle.calculus.specs.Line as Line
use Rattle.terms.specs.Terms.{TreeOf, WellFormed, FreeIn, Small}
use Rattle.terms.specs.Places.{At, whole}
use Rattle.terms.proofs.Trees.{flat_size}
use Rattle.terms.proofs.Unique.{one_tree}
use Rattle.terms.proofs.Wholes.{whole_tree}
use Rattle.terms.proofs.Bridge.{formed_counted, formed_fielded, free_cells, free_row, small_below}
use Rattle.calculus.specs.Meaning.{Gives, Refuses, most}
use Rattle.calculus.specs.Laws.{Laws}
use Rattle.calculus.specs.Figures.{Figure, Spells, SiteOf, Asked, Owes, meaning_of}

-- the parts of an answer
abbrev row_of : Result Row ℕ → Row
row_of (Ok u) = u
row_of (Err k) = none

abbrev number_in : Result Row ℕ → ℕ
number_in (Ok u) = 0
number_in (Err k) = k

abbrev IsRow : Result Row ℕ → Type 0
IsRow (Ok u) = Unit {0}
IsRow (Err k) = ⊥

module _ (f : Figure) (o : Owes f) where
  abbrev Saying : (rule argument : ℕ) (inner : List ℕ) → Row → Result Row ℕ → Type 0
  Saying rule argument inner t a = Line.Says (f.HasRule rule) (f.Apt rule argument inner) (f.line rule argument inner t) a

  -- a given term and its redex, as rows
  record Read (rule argument : ℕ) (inner redex result : List ℕ) : Type 0 where
    pub t : Row
    pub u : Row
    pub asked : Asked f rule argument inner t
    pub gives : Line.Gives (f.line rule argument inner t) u
    pub says : Saying rule argument inner t (Ok u)
    pub is : flat t ≡ redex
    pub reads : flat u ≡ result

  read : (rule argument : ℕ) (inner redex result : List ℕ) → Gives (meaning_of f) rule argument inner redex result → Read rule argument inner redex result
  read rule argument inner redex result g = go g.gives.answers
    where
      go : Line.Answers f.Term (f.HasRule rule) (f.Apt rule argument inner) (f.line rule argument inner) redex (Ok g.gives.row) → Read rule argument inner redex result
      go (d, (h, a, l)) =
          record { t = d.row; u = g.gives.row; asked = record { has_rule = h; apt = a; lawful = d.lawful; low = d.low }; gives = l; says = (h, a, l); is = d.reads; reads = g.gives.reads }

  -- a number and its redex, as a row
  record Said (rule argument k : ℕ) (inner redex : List ℕ) : Type 0 where
    pub t : Row
    pub lawful : f.Term t
    pub says : Saying rule argument inner t (Err k)
    pub is : flat t ≡ redex

  said : (rule argument k : ℕ) (inner redex : List ℕ) → Refuses (meaning_of f) rule argument inner redex k → Said rule argument k inner redex
  said rule argument k inner redex g = go g.refuses
    where
      taken : Line.Redex f.Term redex
      taken =
          let w = g.tried.taken.lawful in
          record { row = w.row; lawful = w.lawful; low = small_below w.row (subst Small (sym w.reads) g.tried.taken.small); reads = w.reads }

      go : Line.Answers f.Term (f.HasRule rule) (f.Apt rule argument inner) (f.line rule argument inner) redex (Err k) → Said rule argument k inner redex
      go (inl (d, s)) = record { t = d.row; lawful = d.lawful; says = s; is = d.reads }
      go (inr (n, s)) = absurd (n taken)

  tree : (cells : List ℕ) (t : Row) → f.Term t → flat t ≡ cells → TreeOf cells t
  tree cells t l e = record { one = (o.formed t l).0; counted = formed_counted t (o.formed t l).1; reads = e }

  well : (cells : List ℕ) (t : Row) → f.Term t → flat t ≡ cells → WellFormed cells
  well cells t l e = record { tree = t; is = tree cells t l e; formed = formed_fielded t (o.formed t l).1 }

  -- cells spell one term
  same_row : (cells : List ℕ) (s t : Row) → f.Term s → f.Term t → flat s ≡ cells → flat t ≡ cells → s ≡ t
  same_row cells s t k l d e = one_tree cells s t (tree cells s k d) (tree cells t l e)

  short : (u : Row) (result : List ℕ) → flat u ≡ result → length result ≤ most → size u ≤ most
  short u result e l = subst (λ n. n ≤ most) (ap length (sym e) ∙ flat_size u) l

  numbered : (rule argument k : ℕ) (inner : List ℕ) (t : Row) → f.HasRule rule → f.Apt rule argument inner → Saying rule argument inner t (Err k) → (12 ≤ k) × (k ≤ 14)
  numbered rule argument k inner t h a (inl (e, n)) = absurd (n h)
  numbered rule argument k inner t h a (inr (inl (e, g, n))) = absurd (n a)
  numbered rule argument k inner t h a (inr (inr (inl (e, x, y, g)))) = (omega (arith, e), omega (arith, e))
  numbered rule argument k inner t h a (inr (inr (inr (inl (e, x, y, g))))) = (omega (arith, e), omega (arith, e))
  numbered rule argument k inner t h a (inr (inr (inr (inr (e, x, y, g))))) = (omega (arith, e), omega (arith, e))

  single : (rule argument : ℕ) (inner redex one other : List ℕ) → Gives (meaning_of f) rule argument inner redex one → Gives (meaning_of f) rule argument inner redex other → one ≡ other
  single rule argument inner redex one other g h =
      let r = read rule argument inner redex one g in
      let s = read rule argument inner redex other h in
      let e = same_row redex s.t r.t s.asked.lawful r.asked.lawful s.is r.is in
      let a = o.answer rule argument inner r.t (Ok r.u) (Ok s.u) r.says (subst (λ t. Saying rule argument inner t (Ok s.u)) e s.says) in
      sym r.reads ∙ ap (λ b. flat (row_of b)) a ∙ s.reads

  number : (rule argument k l : ℕ) (inner redex : List ℕ) → Refuses (meaning_of f) rule argument inner redex k → Refuses (meaning_of f) rule argument inner redex l → k ≡ l
  number rule argument k l inner redex g h =
      let r = said rule argument k inner redex g in
      let s = said rule argument l inner redex h in
      let e = same_row redex s.t r.t s.lawful r.lawful s.is r.is in
      ap number_in (o.answer rule argument inner r.t (Err k) (Err l) r.says (subst (λ t. Saying rule argument inner t (Err l)) e s.says))

  either : (rule argument k : ℕ) (inner redex result : List ℕ) → Gives (meaning_of f) rule argument inner redex result → Refuses (meaning_of f) rule argument inner redex k → ⊥
  either rule argument k inner redex result g h =
      let r = read rule argument inner redex result g in
      let s = said rule argument k inner redex h in
      let e = same_row redex s.t r.t s.lawful r.asked.lawful s.is r.is in
      subst IsRow (o.answer rule argument inner r.t (Ok r.u) (Err k) r.says (subst (λ t. Saying rule argument inner t (Err k)) e s.says)) tt

  first : (rule argument : ℕ) (cells place inner left redex right result : List ℕ) → SiteOf f.Term f.Site place cells → At cells place left redex right → Gives (meaning_of f) rule argument inner redex result → length result ≤ most → Spells f.Term (whole left result right)
  first rule argument cells place inner left redex right result s a g l =
      let r = read rule argument inner redex result g in
      let k = o.given rule argument inner r.t r.u r.asked r.gives (short r.u result r.reads l) in
      let e = one_tree cells a.tree s.row a.is (tree cells s.row s.lawful s.reads) in
      let w = whole_tree cells place left redex right result a r.u (tree result r.u k r.reads) in
      record {
        row = put s.row 0 place r.u;
        lawful = o.kept s.row place r.u s.lawful s.site k;
        reads = subst (λ t. flat (put t 0 place r.u) ≡ whole left result right) e w.reads;
      }

  second : (rule argument n : ℕ) (inner redex result : List ℕ) → Gives (meaning_of f) rule argument inner redex result → length result ≤ most → FreeIn n result → FreeIn n redex
  second rule argument n inner redex result g l h =
      let r = read rule argument inner redex result g in
      let small = short r.u result r.reads l in
      let k = o.given rule argument inner r.t r.u r.asked r.gives small in
      let x = free_row n result r.u (tree result r.u k r.reads) h in
      free_cells n redex r.t (tree redex r.t r.asked.lawful r.is) (o.second rule argument inner r.t r.u r.asked r.gives small n x)

  pub laws_from : Laws (meaning_of f)
  laws_from =
      record {
        formed = λ cells s. well cells s.row s.lawful s.reads;
        sites = λ place cells s. (record { row = s.row; lawful = s.lawful; reads = s.reads }, record { tree = s.row; is = tree cells s.row s.lawful s.reads; there = o.sites s.row place s.lawful s.site });
        ruled = λ rule argument inner redex result g. o.ruled rule g.tried.has_rule;
        named = λ rule argument inner redex result g. let r = read rule argument inner redex result g in record { tree = r.t; is = tree redex r.t r.asked.lawful r.is; there = o.named rule argument inner r.t r.u r.asked r.gives };
        term = λ rule argument inner redex result g l. let r = read rule argument inner redex result g in well result r.u (o.given rule argument inner r.t r.u r.asked r.gives (short r.u result r.reads l)) r.reads;
        single = single;
        number = number;
        numbers = λ rule argument k inner redex g. let s = said rule argument k inner redex g in numbered rule argument k inner s.t g.tried.has_rule g.tried.fits s.says;
        either = either;
        first = first;
        second = second;
      }
