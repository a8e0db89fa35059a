-- Any grammar: where lawful rows lie from a cell on, or where none can go on; and from the first cell on, the answer
-- on the whole. Each sort has a tree.
use Rattle.std.proofs.Common.{◌≡◌, ℕ, zero, suc, ◌+◌, ◌-◌, ◌<◌, ◌≤◌, max, Bool, true, false, List, [], ◌∷◌, ◌++◌, length, get_or, take, drop, replicate, IsErrAnd, Ok, Err, Result, sym, refl, ap, ◌∙◌, subst, append_assoc, append-nil, arith}
use Rattle.std.proofs.lemmas.Result.{err_from_is_err_and}
use Rattle.std.proofs.lemmas.List.{drop_more, drop_all, take_more, take_at}
use Rattle.terms.specs.Rows.{Row, flat, size, depth, ◌&◌}
use Rattle.terms.specs.Rows.Row.{none, node}
use Rattle.terms.specs.Grammar.{Lawful, Goes, Begins, Stops, Stuck, Lies, Fills, Refused, Judged}
use Rattle.terms.specs.Judging.{JudgedFrom}
use Rattle.terms.proofs.Trees.{flat_size, flat-&}
use Rattle.terms.proofs.Bridge.{size-&}
use Rattle.terms.proofs.Goings.{lawful-&, lawful_same, goes_in, goes_out, begins_out, stops_none, stops_bad, stops_in, stops_after, stops_front}

pub depth-& : (s t : Row) → depth (s & t) ≡ max (depth s) (depth t)
depth-& none t = omega arith
depth-& (node c ks r) t = omega (arith, depth-& r t)

pub depth_size : (t : Row) → depth t ≤ size t
depth_size none = omega arith
depth_size (node c ks r) = omega (arith, depth_size ks, depth_size r)

-- so many trees of a sort, and one more at the end
pub replicate_more : {S : Type 0} (s : S) (n : ℕ) → replicate n s ++ s ∷ [] ≡ replicate (n + 1) s
replicate_more s zero = refl
replicate_more s (suc n) = let e : suc (n + 1) ≡ suc n + 1 = omega arith in ap (λ l. s ∷ l) (replicate_more s n) ∙ ap (λ k. replicate k s) e

-- so many, and more behind them
pub replicate-++ : {S : Type 0} (s : S) (m n : ℕ) → replicate m s ++ replicate n s ≡ replicate (m + n) s
replicate-++ s zero n = ap (λ k. replicate k s) (omega arith)
replicate-++ s (suc m) n = let e : suc (m + n) ≡ suc m + n = omega arith in ap (λ l. s ∷ l) (replicate-++ s m n) ∙ ap (λ k. replicate k s) e

module _ {S : Type 0} (admits : S → ℕ → Bool) (kids : S → ℕ → List S) where
  -- no trees
  pub lies_none : (cells : List ℕ) (at : ℕ) → at ≤ length cells → Lies admits kids [] cells at at 0
  lies_none cells at h = record { row = none; lawful = tt; ended = omega arith; deepest = refl; within = h; reads = refl }

  -- a cell with its children
  pub lies_in : (s : S) (cells : List ℕ) (at : ℕ) → at < length cells → (ks : List S) (end deep : ℕ) → admits s (get_or cells at 0) ≡ true → kids s (get_or cells at 0) ≡ ks → Lies admits kids ks cells (at + 1) end deep → Lies admits kids (s ∷ []) cells at end (deep + 1)
  lies_in s cells at h ks end deep a k p =
      let c = get_or cells at 0 in
      record {
        row = node c p.row none;
        lawful = (a, subst (λ x. Lawful admits kids x p.row) (sym k) p.lawful, tt);
        ended = omega (arith, p.ended);
        deepest = omega (arith, p.deepest);
        within = p.within;
        reads = ap (λ l. c ∷ l ++ drop end cells) (append-nil (flat p.row)) ∙ ap (λ l. c ∷ l) p.reads ∙ sym (drop_more cells at 0 h);
      }

  -- a cell with none
  pub lies_one : (s : S) (cells : List ℕ) (at : ℕ) → at < length cells → admits s (get_or cells at 0) ≡ true → kids s (get_or cells at 0) ≡ [] → Lies admits kids (s ∷ []) cells at (at + 1) 1
  lies_one s cells at h a k = lies_in s cells at h [] (at + 1) 0 a k (lies_none cells (at + 1) (omega arith))

  -- a row after a row
  pub lies_after : (xs ys : List S) {cells : List ℕ} {at mid end d e : ℕ} → Lies admits kids xs cells at mid d → Lies admits kids ys cells mid end e → Lies admits kids (xs ++ ys) cells at end (max d e)
  lies_after xs ys {cells} {end = end} p q =
      record {
        row = p.row & q.row;
        lawful = lawful-& admits kids xs ys p.row q.row p.lawful q.lawful;
        ended = omega (arith, p.ended, q.ended, size-& p.row q.row);
        deepest = omega (arith, p.deepest, q.deepest, depth-& p.row q.row);
        within = q.within;
        reads = ap (λ l. l ++ drop end cells) (flat-& p.row q.row) ∙ append_assoc (flat p.row) (flat q.row) (drop end cells) ∙ ap (λ l. flat p.row ++ l) q.reads ∙ p.reads;
      }

  -- so many trees of a sort, and one more
  pub lies_child : (z : S) (i : ℕ) {cells : List ℕ} {at mid end d e : ℕ} → Lies admits kids (replicate i z) cells at mid d → Lies admits kids (z ∷ []) cells mid end e → Lies admits kids (replicate (i + 1) z) cells at end (max d e)
  lies_child z i {cells} {at} {end = end} {d} {e} p q =
      subst (λ ss. Lies admits kids ss cells at end (max d e)) (replicate_more z i) (lies_after (replicate i z) (z ∷ []) p q)

  -- the same row, its sorts and numbers written otherwise
  pub lies_as : {ss zs : List S} {cells : List ℕ} {at at' end end' d e : ℕ} → Lies admits kids ss cells at end d → ss ≡ zs → at ≡ at' → end ≡ end' → d ≡ e → Lies admits kids zs cells at' end' e
  lies_as {cells = cells} p s a n d = rw (← s, ← a, ← n, ← d) p

  -- a row is no deeper than it has cells, and these lie within the list
  pub lies_bounds : {ss : List S} {cells : List ℕ} {at end deep : ℕ} → Lies admits kids ss cells at end deep → (at ≤ end) × (end ≤ length cells) × (deep + at ≤ end)
  lies_bounds p = (omega (arith, p.ended), p.within, omega (arith, p.ended, p.deepest, depth_size p.row))

  -- the cells of a row that lies from the first to the last
  pub fills : (ss : List S) (cells : List ℕ) (end deep : ℕ) → Lies admits kids ss cells 0 end deep → length cells ≤ end → (end ≡ length cells) × Fills admits kids ss cells deep
  fills ss cells end deep p h =
      (omega (arith, p.within), record { row = p.row; lawful = p.lawful; reads = sym (append-nil (flat p.row)) ∙ ap (λ l. flat p.row ++ l) (sym (drop_all end cells h)) ∙ p.reads; deepest = p.deepest })

  -- a row that ends too early
  pub refused_rest : (ss : List S) (cells : List ℕ) (end deep : ℕ) → Lies admits kids ss cells 0 end deep → end < length cells → Refused admits kids ss cells end
  refused_rest ss cells end deep p h =
      let t = p.row in
      let long : length (flat t) ≡ end = flat_size t ∙ omega (arith, p.ended) in
      let cut : take end cells ≡ flat t = ap (take end) (sym p.reads) ∙ take_at (flat t) (drop end cells) end long in
      let next = drop_more cells end 0 h in
      record {
        within = omega arith;
        front = record { row = t; lawful = p.lawful; more = []; reads = sym cut ∙ sym (append-nil (take end cells)) };
        ends = λ w g.
            let s : suc end ≡ end + 1 = omega arith in
            let x : take (suc end) cells ≡ flat t ++ get_or cells end 0 ∷ [] = ap (λ k. take k cells) s ∙ take_more cells end 0 h ∙ ap (λ l. l ++ get_or cells end 0 ∷ []) cut in
            let e : flat g.row ++ [] ≡ flat t ++ (get_or cells end 0 ∷ g.more) = append-nil (flat g.row) ∙ g.reads ∙ ap (λ l. l ++ g.more) x ∙ append_assoc (flat t) (get_or cells end 0 ∷ []) g.more in
            let z = (lawful_same admits kids ss g.row t [] (get_or cells end 0 ∷ g.more) g.lawful p.lawful e).1 in
            let o : ◌≡◌ {A = ℕ} 0 1 = cc z in omega arith;
        short = λ u l e.
            let z = (lawful_same admits kids ss u t [] (drop end cells) l p.lawful (append-nil (flat u) ∙ e ∙ sym p.reads)).1 ∙ next in
            let o : ◌≡◌ {A = ℕ} 0 1 = cc z in omega arith;
      }

  -- no row goes on from the first cell
  pub refused_stuck : (ss : List S) (cells : List ℕ) (i : ℕ) → Stuck admits kids ss cells 0 i → Refused admits kids ss cells i
  refused_stuck ss cells i p =
      let q = p.stops in
      let r : Refused admits kids ss cells p.past = record { within = q.within; front = q.front; ends = q.ends; short = λ t l e. q.short (record { row = t; lawful = l; rest = []; reads = append-nil (flat t) ∙ e }) } in
      subst (Refused admits kids ss cells) (omega (arith, p.is)) r

  -- the exit of a `?`, from a cell on and on the whole
  pub exit_from : (ss : List S) (cells : List ℕ) (at : ℕ) (r : Result (ℕ × ℕ) ℕ) (i : ℕ) → IsErrAnd r (λ y. y ≡ i) → Stuck admits kids ss cells at i → JudgedFrom admits kids ss cells at r
  exit_from ss cells at r i e p = let q = err_from_is_err_and r e in subst (JudgedFrom admits kids ss cells at) (ap Err (sym q.2) ∙ sym q.1) p

  pub exit_whole : (ss : List S) (cells : List ℕ) (r : Result (ℕ × ℕ) ℕ) (i : ℕ) → IsErrAnd r (λ y. y ≡ i) → Stuck admits kids ss cells 0 i → Judged admits kids ss cells r
  exit_whole ss cells r i e p = let q = err_from_is_err_and r e in subst (Judged admits kids ss cells) (ap Err (sym q.2) ∙ sym q.1) (refused_stuck ss cells i p)

module _ {S : Type 0} (admits : S → ℕ → Bool) (kids : S → ℕ → List S) (filler : (ss : List S) → (t : Row) × Lawful admits kids ss t) where
  -- where the cells run out
  pub stuck_end : (s : S) (ss : List S) (cells : List ℕ) (at : ℕ) → length cells ≤ at → Stuck admits kids (s ∷ ss) cells at at
  stuck_end s ss cells at h =
      record { past = 0; is = omega arith; stops = subst (λ l. Stops admits kids (s ∷ ss) l 0) (sym (drop_all at cells h)) (stops_none admits kids filler s ss) }

  -- at a cell that the sort does not admit
  pub stuck_bad : (s : S) (ss : List S) (cells : List ℕ) (at : ℕ) → at < length cells → admits s (get_or cells at 0) ≡ false → Stuck admits kids (s ∷ ss) cells at at
  stuck_bad s ss cells at h a =
      record { past = 0; is = omega arith; stops = subst (λ l. Stops admits kids (s ∷ ss) l 0) (sym (drop_more cells at 0 h)) (stops_bad admits kids filler s ss (get_or cells at 0) (drop (at + 1) cells) a) }

  -- among its children
  pub stuck_in : (s : S) (cells : List ℕ) (at : ℕ) → at < length cells → (ks : List S) (i : ℕ) → admits s (get_or cells at 0) ≡ true → kids s (get_or cells at 0) ≡ ks → Stuck admits kids ks cells (at + 1) i → Stuck admits kids (s ∷ []) cells at i
  stuck_in s cells at h ks i a k p =
      let q = subst (λ ss. Stops admits kids ss (drop (at + 1) cells) p.past) (sym k ∙ sym (append-nil (kids s (get_or cells at 0)))) p.stops in
      let c = stops_in admits kids filler s [] (get_or cells at 0) (drop (at + 1) cells) p.past a q in
      record { past = suc p.past; is = omega (arith, p.is); stops = subst (λ l. Stops admits kids (s ∷ []) l (suc p.past)) (sym (drop_more cells at 0 h)) c }

  -- among the first trees, whatever is to follow
  pub stuck_front : (xs ys : List S) {cells : List ℕ} {at i : ℕ} → Stuck admits kids xs cells at i → Stuck admits kids (xs ++ ys) cells at i
  stuck_front xs ys {cells} {at} p = record { past = p.past; is = p.is; stops = stops_front admits kids filler xs ys (drop at cells) p.past p.stops }

  -- behind trees that are whole
  pub stuck_after : (xs ys : List S) {cells : List ℕ} {at mid deep i : ℕ} → Lies admits kids xs cells at mid deep → Stuck admits kids ys cells mid i → Stuck admits kids (xs ++ ys) cells at i
  stuck_after xs ys {cells} {mid = mid} l p =
      record {
        past = size l.row + p.past;
        is = omega (arith, p.is, l.ended);
        stops = subst (λ x. Stops admits kids (xs ++ ys) x (size l.row + p.past)) l.reads (stops_after admits kids filler l.row xs ys (drop mid cells) p.past l.lawful p.stops);
      }

  -- behind so many trees of a sort, of more
  pub stuck_child : (z : S) (i n : ℕ) {cells : List ℕ} {at mid d j : ℕ} → i < n → Lies admits kids (replicate i z) cells at mid d → Stuck admits kids (z ∷ []) cells mid j → Stuck admits kids (replicate n z) cells at j
  stuck_child z i n {cells} {at} {j = j} h p q =
      let e : i + 1 + (n - (i + 1)) ≡ n = omega arith in
      let k : (replicate i z ++ z ∷ []) ++ replicate (n - (i + 1)) z ≡ replicate n z =
      ap (λ l. l ++ replicate (n - (i + 1)) z) (replicate_more z i) ∙ replicate-++ z (i + 1) (n - (i + 1)) ∙ ap (λ m. replicate m z) e in
      subst (λ ss. Stuck admits kids ss cells at j) k (stuck_front (replicate i z ++ z ∷ []) (replicate (n - (i + 1)) z) (stuck_after (replicate i z) (z ∷ []) p q))

  -- A sort that takes a cell as another does is stuck where that is.
  begins_in : (s : S) (c : ℕ) (l : List ℕ) → admits s c ≡ true → Begins admits kids (kids s c) l → Begins admits kids (s ∷ []) (c ∷ l)
  begins_in s c l h g = record { row = node c g.row none; lawful = (h, g.lawful, tt); rest = g.rest; reads = ap (λ x. c ∷ x ++ g.rest) (append-nil (flat g.row)) ∙ ap (λ x. c ∷ x) g.reads }

  stops_alike : (s z : S) (c : ℕ) (l : List ℕ) (i : ℕ) → admits z c ≡ admits s c → kids z c ≡ kids s c → Stops admits kids (s ∷ []) (c ∷ l) i → Stops admits kids (z ∷ []) (c ∷ l) i
  stops_alike s z c l i a k p =
      record {
        within = p.within;
        front = front i p.front;
        ends = λ h g. p.ends h (across z s (sym a) (sym k) (take i l) g);
        short = λ b.
            let q = begins_out admits kids filler z [] c l b in
            p.short (begins_in s c l (sym a ∙ q.0) (subst (λ x. Begins admits kids x l) (append-nil (kids z c) ∙ k) q.1));
      }
    where
      across : (s z : S) → admits z c ≡ admits s c → kids z c ≡ kids s c → (m : List ℕ) → Goes admits kids (s ∷ []) (c ∷ m) → Goes admits kids (z ∷ []) (c ∷ m)
      across s z a k m g =
          let q = goes_out admits kids filler s [] c m g in
          goes_in admits kids filler z [] c m (a ∙ q.0) (subst (λ x. Goes admits kids (x ++ []) m) (sym k) q.1)

      front : (i : ℕ) → Goes admits kids (s ∷ []) (take i (c ∷ l)) → Goes admits kids (z ∷ []) (take i (c ∷ l))
      front zero g = let f = filler (z ∷ []) in record { row = f.0; lawful = f.1; more = flat f.0; reads = refl }
      front (suc i) g = across s z a k (take i l) g

  module _ (s z : S) (cells : List ℕ) (at : ℕ) (h : at < length cells) (a : admits z (get_or cells at 0) ≡ admits s (get_or cells at 0)) (k : kids z (get_or cells at 0) ≡ kids s (get_or cells at 0)) where
    pub stuck_alike : (i : ℕ) → Stuck admits kids (s ∷ []) cells at i → Stuck admits kids (z ∷ []) cells at i
    stuck_alike i p =
        let q = subst (λ l. Stops admits kids (s ∷ []) l p.past) (drop_more cells at 0 h) p.stops in
        let m = stops_alike s z (get_or cells at 0) (drop (at + 1) cells) p.past a k q in
        record { past = p.past; is = p.is; stops = subst (λ l. Stops admits kids (z ∷ []) l p.past) (sym (drop_more cells at 0 h)) m }

    pub lies_alike : (end deep : ℕ) → Lies admits kids (s ∷ []) cells at end deep → Lies admits kids (z ∷ []) cells at end deep
    lies_alike end deep p =
        record { row = p.row; lawful = go p.row p.lawful (p.reads ∙ drop_more cells at 0 h); ended = p.ended; deepest = p.deepest; within = p.within; reads = p.reads }
      where
        go : (t : Row) → Lawful admits kids (s ∷ []) t → flat t ++ drop end cells ≡ get_or cells at 0 ∷ drop (at + 1) cells → Lawful admits kids (z ∷ []) t
        go none l e = l
        go (node c ks r) l e =
            let hd : get_or cells at 0 ≡ c = cc e in
            let b = subst (λ x. admits z x ≡ admits s x) hd a in
            let j = subst (λ x. kids z x ≡ kids s x) hd k in
            (b ∙ l.0, subst (λ x. Lawful admits kids x ks) (sym j) l.1, l.2)

    pub judged_alike : (r : Result (ℕ × ℕ) ℕ) → JudgedFrom admits kids (s ∷ []) cells at r → JudgedFrom admits kids (z ∷ []) cells at r
    judged_alike (Ok v) p = lies_alike v.0 v.1 p
    judged_alike (Err i) p = stuck_alike i p
