-- Any grammar: lawful rows side by side, and where a list of cells stops being the front of one. Each sort has a tree.
use Rattle.std.proofs.Common.{◌≡◌, ℕ, suc, ◌+◌, Bool, true, false, ◌⊎◌, List, [], ◌∷◌, ◌++◌, take, drop, sym, refl, ap, ◌∙◌, subst, inl, inr, ⊎_elim, append_assoc, arith, take-append-drop}
use Rattle.terms.specs.Rows.{Row, flat, size, ◌&◌}
use Rattle.terms.specs.Rows.Row.{none, node}
use Rattle.terms.specs.Grammar.{Lawful, Goes, Begins, Stops}
use Rattle.terms.proofs.Trees.{flat-&}

module _ {S : Type 0} (admits : S → ℕ → Bool) (kids : S → ℕ → List S) where
  -- lawful rows side by side
  pub lawful-& : (xs ys : List S) (a b : Row) → Lawful admits kids xs a → Lawful admits kids ys b → Lawful admits kids (xs ++ ys) (a & b)
  lawful-& [] ys none b h k = k
  lawful-& [] ys (node c ks r) b h k = absurd h
  lawful-& (s ∷ xs) ys none b h k = absurd h
  lawful-& (s ∷ xs) ys (node c ks r) b h k = (h.0, h.1, lawful-& xs ys r b h.2 k)

  -- and taken apart
  pub record Parted (xs ys : List S) (t : Row) : Type 0 where
    pub a : Row
    pub b : Row
    pub is : t ≡ a & b
    pub left : Lawful admits kids xs a
    pub right : Lawful admits kids ys b

  pub parted : (xs ys : List S) (t : Row) → Lawful admits kids (xs ++ ys) t → Parted xs ys t
  parted [] ys t h = record { a = none; b = t; is = refl; left = tt; right = h }
  parted (s ∷ xs) ys none h = absurd h
  parted (s ∷ xs) ys (node c ks r) h =
      let p = parted xs ys r h.2 in
      record { a = node c ks p.a; b = p.b; is = ap (node c ks) p.is; left = (h.0, h.1, p.left); right = p.right }

  -- Lawful rows of one list of sorts are self-delimiting.
  pub lawful_same : (ss : List S) (s t : Row) (a b : List ℕ) → Lawful admits kids ss s → Lawful admits kids ss t → flat s ++ a ≡ flat t ++ b → (s ≡ t) × (a ≡ b)
  lawful_same [] none none a b h k e = (refl, e)
  lawful_same [] none (node d ks r) a b h k e = absurd k
  lawful_same [] (node c js q) t a b h k e = absurd h
  lawful_same (z ∷ ss) none t a b h k e = absurd h
  lawful_same (z ∷ ss) (node c js q) none a b h k e = absurd k
  lawful_same (z ∷ ss) (node c js q) (node d ks r) a b h k e =
      let hd : c ≡ d = cc e in
      let tl : (flat js ++ flat q) ++ a ≡ (flat ks ++ flat r) ++ b = cc e in
      let x = lawful_same (kids z c) js ks (flat q ++ a) (flat r ++ b) h.1 (subst (λ v. Lawful admits kids (kids z v) ks) (sym hd) k.1) (sym (append_assoc (flat js) (flat q) a) ∙ tl ∙ append_assoc (flat ks) (flat r) b) in
      let y = lawful_same ss q r a b h.2 k.2 x.1 in
      (cc (hd, x.0, y.0), y.1)

-- of two fronts of one list, one is a front of the other
pub fronts : (xs ys m n : List ℕ) → xs ++ m ≡ ys ++ n → ((k : List ℕ) × (xs ≡ ys ++ k)) ⊎ ((k : List ℕ) × (xs ++ k ≡ ys))
fronts [] ys m n e = inr (ys, refl)
fronts (x ∷ xs) [] m n e = inl (x ∷ xs, refl)
fronts (x ∷ xs) (y ∷ ys) m n e =
    let hd : x ≡ y = cc e in
    ⊎_elim (λ p. inl (p.0, cc (hd, p.1))) (λ p. inr (p.0, cc (hd, p.1))) (fronts xs ys m n (cc e))

differ : {b : Bool} → b ≡ true → b ≡ false → ⊥
differ p q = let z : ◌≡◌ {A = ℕ} 0 1 = cc in omega arith

module _ {S : Type 0} (admits : S → ℕ → Bool) (kids : S → ℕ → List S) (filler : (ss : List S) → (t : Row) × Lawful admits kids ss t) where
  -- one cell: its children's sorts come before those that are still to come
  pub goes_in : (s : S) (ss : List S) (c : ℕ) (l : List ℕ) → admits s c ≡ true → Goes admits kids (kids s c ++ ss) l → Goes admits kids (s ∷ ss) (c ∷ l)
  goes_in s ss c l h g =
      let p = parted admits kids (kids s c) ss g.row g.lawful in
      record { row = node c p.a p.b; lawful = (h, p.left, p.right); more = g.more; reads = ap (λ x. c ∷ x) (sym (flat-& p.a p.b) ∙ ap flat (sym p.is) ∙ g.reads) }

  pub goes_out : (s : S) (ss : List S) (c : ℕ) (l : List ℕ) → Goes admits kids (s ∷ ss) (c ∷ l) → (admits s c ≡ true) × Goes admits kids (kids s c ++ ss) l
  goes_out s ss c l g = go g.row g.lawful g.reads
    where
      go : (t : Row) → Lawful admits kids (s ∷ ss) t → flat t ≡ c ∷ l ++ g.more → (admits s c ≡ true) × Goes admits kids (kids s c ++ ss) l
      go none h e = absurd h
      go (node d ks r) h e =
          let hd : d ≡ c = cc e in
          let tl : flat ks ++ flat r ≡ l ++ g.more = cc e in
          let k = subst (λ x. Lawful admits kids (kids s x) ks) hd h.1 in
          (subst (λ x. admits s x ≡ true) hd h.0, record { row = ks & r; lawful = lawful-& admits kids (kids s c) ss ks r k h.2; more = g.more; reads = flat-& ks r ∙ tl })

  pub begins_out : (s : S) (ss : List S) (c : ℕ) (l : List ℕ) → Begins admits kids (s ∷ ss) (c ∷ l) → (admits s c ≡ true) × Begins admits kids (kids s c ++ ss) l
  begins_out s ss c l g = go g.row g.lawful g.reads
    where
      go : (t : Row) → Lawful admits kids (s ∷ ss) t → flat t ++ g.rest ≡ c ∷ l → (admits s c ≡ true) × Begins admits kids (kids s c ++ ss) l
      go none h e = absurd h
      go (node d ks r) h e =
          let hd : d ≡ c = cc e in
          let tl : (flat ks ++ flat r) ++ g.rest ≡ l = cc e in
          let k = subst (λ x. Lawful admits kids (kids s x) ks) hd h.1 in
          (subst (λ x. admits s x ≡ true) hd h.0, record { row = ks & r; lawful = lawful-& admits kids (kids s c) ss ks r k h.2; rest = g.rest; reads = ap (λ x. x ++ g.rest) (flat-& ks r) ∙ tl })

  -- any sorts have a row, so no cells at all are a front of one
  nothing_goes : (ss : List S) → Goes admits kids ss []
  nothing_goes ss = let f = filler ss in record { row = f.0; lawful = f.1; more = flat f.0; reads = refl }

  -- where no cell is left
  pub stops_none : (s : S) (ss : List S) → Stops admits kids (s ∷ ss) [] 0
  stops_none s ss =
      record {
        within = omega arith;
        front = nothing_goes (s ∷ ss);
        ends = λ h g. absurd (omega arith);
        short = λ b. go b.row b.rest b.lawful b.reads;
      }
    where
      go : (t : Row) (rest : List ℕ) → Lawful admits kids (s ∷ ss) t → flat t ++ rest ≡ [] → ⊥
      go none rest h e = h
      go (node d ks r) rest h e = let z : ◌≡◌ {A = ℕ} 0 1 = cc e in omega arith

  -- at a cell that the sort does not admit
  pub stops_bad : (s : S) (ss : List S) (c : ℕ) (l : List ℕ) → admits s c ≡ false → Stops admits kids (s ∷ ss) (c ∷ l) 0
  stops_bad s ss c l h =
      record {
        within = omega arith;
        front = nothing_goes (s ∷ ss);
        ends = λ k g. differ (goes_out s ss c [] g).0 h;
        short = λ b. differ (begins_out s ss c l b).0 h;
      }

  -- behind one that it admits
  pub stops_in : (s : S) (ss : List S) (c : ℕ) (l : List ℕ) (i : ℕ) → admits s c ≡ true → Stops admits kids (kids s c ++ ss) l i → Stops admits kids (s ∷ ss) (c ∷ l) (suc i)
  stops_in s ss c l i h p =
      record {
        within = omega (arith, p.within);
        front = goes_in s ss c (take i l) h p.front;
        ends = λ k g. p.ends (omega arith) (goes_out s ss c (take (suc i) l) g).1;
        short = λ b. p.short (begins_out s ss c l b).1;
      }

  -- behind trees that are whole
  pub stops_after : (t : Row) (xs ys : List S) (rest : List ℕ) (i : ℕ) → Lawful admits kids xs t → Stops admits kids ys rest i → Stops admits kids (xs ++ ys) (flat t ++ rest) (size t + i)
  stops_after none [] ys rest i h p = subst (Stops admits kids ys rest) (omega arith) p
  stops_after none (s ∷ xs) ys rest i h p = absurd h
  stops_after (node c ks r) [] ys rest i h p = absurd h
  stops_after (node c ks r) (s ∷ xs) ys rest i h p =
      let q = stops_after r xs ys rest i h.2 p in
      let k = stops_after ks (kids s c) (xs ++ ys) (flat r ++ rest) (size r + i) h.1 q in
      let l : flat ks ++ (flat r ++ rest) ≡ (flat ks ++ flat r) ++ rest = sym (append_assoc (flat ks) (flat r) rest) in
      let k' = subst (λ x. Stops admits kids (kids s c ++ (xs ++ ys)) x (size ks + (size r + i))) l k in
      subst (Stops admits kids (s ∷ (xs ++ ys)) (c ∷ ((flat ks ++ flat r) ++ rest))) (omega arith) (stops_in s (xs ++ ys) c ((flat ks ++ flat r) ++ rest) (size ks + (size r + i)) h.0 k')

  -- among the first trees, whatever is to follow
  pub stops_front : (xs ys : List S) (l : List ℕ) (i : ℕ) → Stops admits kids xs l i → Stops admits kids (xs ++ ys) l i
  stops_front xs ys l i p =
      record {
        within = p.within;
        front =
            let g = p.front in
            let f = filler ys in
            record { row = g.row & f.0; lawful = lawful-& admits kids xs ys g.row f.0 g.lawful f.1; more = g.more ++ flat f.0; reads = flat-& g.row f.0 ∙ ap (λ x. x ++ flat f.0) g.reads ∙ append_assoc (take i l) g.more (flat f.0) };
        ends = λ k g.
            let q = parted admits kids xs ys g.row g.lawful in
            let e : flat q.a ++ flat q.b ≡ take (suc i) l ++ g.more = sym (flat-& q.a q.b) ∙ ap flat (sym q.is) ∙ g.reads in
            ⊎_elim
            (λ u. p.ends k (record { row = q.a; lawful = q.left; more = u.0; reads = u.1 }))
            (λ u. p.short (record { row = q.a; lawful = q.left; rest = u.0 ++ drop (suc i) l; reads = sym (append_assoc (flat q.a) u.0 (drop (suc i) l)) ∙ ap (λ x. x ++ drop (suc i) l) u.1 ∙ take-append-drop (suc i) l }))
            (fronts (flat q.a) (take (suc i) l) (flat q.b) g.more e);
        short = λ b.
            let q = parted admits kids xs ys b.row b.lawful in
            p.short (record { row = q.a; lawful = q.left; rest = flat q.b ++ b.rest; reads = sym (append_assoc (flat q.a) (flat q.b) b.rest) ∙ ap (λ x. x ++ b.rest) (sym (flat-& q.a q.b) ∙ ap flat (sym q.is)) ∙ b.reads });
      }
