-- Lists written over the front of another, one after the other. Assumes nothing.
use Rattle.std.proofs.Common.{◌≡◌, ℕ, suc, ◌+◌, ◌-◌, ◌<◌, ◌≤◌, List, [], ◌∷◌, ◌++◌, length, take, drop, set, sym, refl, ap, ◌∙◌, subst, append_assoc, add-zero, zero-add, add-one, arith, length-append, length-drop, length-set, take-append-drop, take-suc-set, drop-set-lt}
use Rattle.std.proofs.lemmas.List.{append-nil, drop-drop, drop_at, length-take-le}
use Rattle.std.proofs.Math.ListN.{drop_of_length-le}
use Rattle.std.proofs.Math.Seq.{take-append_seam, take-length}
use Rattle.terms.specs.Lists.{over}
use Rattle.terms.specs.Rows.{Row, flat}
use Rattle.terms.proofs.Trees.{flat_size}
use Rattle.moves.specs.Moved.{Written}

pub over_parts : (l : List ℕ) (i : ℕ) (xs : List ℕ) → i + length xs ≤ length l → over l i xs ≡ take i l ++ (xs ++ drop (i + length xs) l)
over_parts l i [] h = sym (ap (λ k. take i l ++ drop k l) (add-zero i) ∙ take-append-drop i l)
over_parts l i (x ∷ xs) h =
    let k = length-set l i x in
    let n : i + 1 + length xs ≡ i + suc (length xs) = omega arith in
    let w : i < length l = omega arith in
    let low : i < i + suc (length xs) = omega arith in
    over_parts (set l i x) (i + 1) xs (omega (arith, k)) ∙ ap (λ m. take m (set l i x) ++ (xs ++ drop (i + 1 + length xs) (set l i x))) (add-one i) ∙ ap (λ y. y ++ (xs ++ drop (i + 1 + length xs) (set l i x))) (take-suc-set l i x w) ∙ append_assoc (take i l) (x ∷ []) (xs ++ drop (i + 1 + length xs) (set l i x)) ∙ ap (λ m. take i l ++ (x ∷ (xs ++ drop m (set l i x)))) n ∙ ap (λ y. take i l ++ (x ∷ (xs ++ y))) (drop-set-lt (i + suc (length xs)) l i x low)

-- from the front on
pub over_front : (l xs : List ℕ) (n : ℕ) → n ≡ length xs → n ≤ length l → over l 0 xs ≡ xs ++ drop n l
over_front l xs n e h = over_parts l 0 xs (omega (arith, e)) ∙ ap (λ k. xs ++ drop k l) (zero-add (length xs) ∙ sym e)

-- The first n cells of a list are now xs.
pub record Fronts (xs l l' : List ℕ) (n : ℕ) : Type 0 where
  pub count : n ≡ length xs
  pub fits : n ≤ length l
  pub writes : l' ≡ xs ++ drop n l

pub fronts_row : {t : Row} {l l' : List ℕ} {n : ℕ} → Written t l l' n → Fronts (flat t) l l' n
fronts_row {t} w = record { count = w.count ∙ sym (flat_size t); fits = w.fits; writes = w.writes }

pub row_fronts : {t : Row} {xs l l' : List ℕ} {n : ℕ} → xs ≡ flat t → Fronts xs l l' n → Written t l l' n
row_fronts {t} {xs} {l} {l'} {n} e w =
    record { count = w.count ∙ ap length e ∙ flat_size t; fits = w.fits; writes = w.writes ∙ ap (λ z. z ++ drop n l) e }

-- nothing, or one cell
pub fronts_none : (l : List ℕ) → Fronts [] l l 0
fronts_none l = record { count = refl; fits = omega arith; writes = refl }

pub fronts_cell : (l : List ℕ) (x : ℕ) → 0 < length l → Fronts (x ∷ []) l (set l 0 x) 1
fronts_cell [] x h = absurd (omega arith)
fronts_cell (y ∷ l) x h = record { count = refl; fits = omega arith; writes = refl }

-- how long the list then is
pub fronts_length : {xs l l' : List ℕ} {n : ℕ} → Fronts xs l l' n → length l' ≡ length l
fronts_length {xs} {l} {l'} {n} w = omega (arith, ap length w.writes, length-append xs (drop n l), length-drop n l, w.count, w.fits)

-- the part of the list from n on, as it is handed on
pub part_is : (l : List ℕ) (n : ℕ) → take (length l - n) (drop n l) ≡ drop n l
part_is l n = ap (λ k. take k (drop n l)) (sym (length-drop n l)) ∙ take-length (drop n l)

pub part_length : (l : List ℕ) (n : ℕ) → length (take (length l - n) (drop n l)) ≡ length l - n
part_length l n = ap length (part_is l n) ∙ length-drop n l

-- the list when that part comes back
part_back : (l part : List ℕ) (n : ℕ) → take n l ++ (part ++ drop (length l - n) (drop n l)) ≡ take n l ++ part
part_back l part n =
    ap (λ z. take n l ++ (part ++ z)) (drop_of_length-le (drop n l) (omega (arith, length-drop n l))) ∙ ap (λ z. take n l ++ z) (append-nil part)

-- after the first n cells, the next m
pub fronts_next : {xs ys l l' part : List ℕ} {n m : ℕ} → Fronts xs l l' n → Fronts ys (take (length l' - n) (drop n l')) part m → Fronts (xs ++ ys) l (take n l' ++ (part ++ drop (length l' - n) (drop n l'))) (n + m)
fronts_next {xs} {ys} {l} {l'} {part} {n} {m} v w =
    let before : take n l' ≡ xs = ap (take n) v.writes ∙ ap (λ k. take k (xs ++ drop n l)) v.count ∙ take-append_seam xs (drop n l) in
    let after : take (length l' - n) (drop n l') ≡ drop n l = part_is l' n ∙ ap (drop n) v.writes ∙ drop_at xs (drop n l) n (sym v.count) in
    let writes : part ≡ ys ++ drop (n + m) l = w.writes ∙ ap (λ z. ys ++ drop m z) after ∙ ap (λ z. ys ++ z) (drop-drop m n l) in
    let fits : m ≤ length l - n = subst (λ k. m ≤ k) (ap length after ∙ length-drop n l) w.fits in
    record {
      count = omega (arith, v.count, w.count, length-append xs ys);
      fits = omega (arith, fits, v.fits);
      writes = part_back l' part n ∙ ap (λ z. z ++ part) before ∙ ap (λ z. xs ++ z) writes ∙ sym (append_assoc xs ys (drop (n + m) l));
    }

-- after the first n cells, one that is set
pub fronts_put : {xs l l' : List ℕ} {n : ℕ} → Fronts xs l l' n → (x : ℕ) → n < length l → Fronts (xs ++ (x ∷ [])) l (set l' n x) (n + 1)
fronts_put {xs} {l} {l'} {n} v x h =
    let before : take n l' ≡ xs = ap (take n) v.writes ∙ ap (λ k. take k (xs ++ drop n l)) v.count ∙ take-append_seam xs (drop n l) in
    let after : drop n l' ≡ drop n l = ap (drop n) v.writes ∙ drop_at xs (drop n l) n (sym v.count) in
    let others : drop (n + 1) l' ≡ drop (n + 1) l = sym (drop-drop 1 n l') ∙ ap (drop 1) after ∙ drop-drop 1 n l in
    record {
      count = omega (arith, v.count, length-append xs (x ∷ []));
      fits = omega (arith, h);
      writes = over_parts l' n (x ∷ []) (omega (arith, h, fronts_length v)) ∙ ap (λ z. z ++ (x ∷ drop (n + 1) l')) before ∙ ap (λ z. xs ++ (x ∷ z)) others ∙ sym (append_assoc xs (x ∷ []) (drop (n + 1) l));
    }

-- cells that come back in the place of a part of the list are written over it from there
pub part_over : (l ys : List ℕ) (to k : ℕ) → k ≡ length ys → to + k ≤ length l → take to l ++ (ys ++ drop k (drop to l)) ≡ over l to ys
part_over l ys to k e h =
    ap (λ z. take to l ++ (ys ++ z)) (drop-drop k to l ∙ ap (λ j. drop (to + j) l) e) ∙ sym (over_parts l to ys (omega (arith, e)))

-- n cells copied over the list from a cell on: `l[to..to + n].copy_from_slice(&cells[at..at + n])`
pub copied_over : (cells l ys : List ℕ) (at n to : ℕ) → at + n ≤ length cells → to + n ≤ length l → ys ≡ take (at + n - at) (drop at cells) → take to l ++ (ys ++ drop (to + n - to) (drop to l)) ≡ over l to (take n (drop at cells))
copied_over cells l ys at n to f g e =
    let m : at + n - at ≡ n = omega arith in
    let k : to + n - to ≡ n = omega arith in
    let is : ys ≡ take n (drop at cells) = e ∙ ap (λ j. take j (drop at cells)) m in
    let long : length (take n (drop at cells)) ≡ n = length-take-le n (drop at cells) (omega (arith, length-drop at cells)) in
    ap (λ z. take to l ++ (z ++ drop (to + n - to) (drop to l))) is ∙ ap (λ j. take to l ++ (take n (drop at cells) ++ drop j (drop to l))) k ∙ part_over l (take n (drop at cells)) to n (sym long) g

-- a row written over the part of a list from a cell on, `&mut l[to..]`, is written over the list from there
pub written_over : {t : Row} {part : List ℕ} {m : ℕ} (l : List ℕ) (to : ℕ) → to ≤ length l → Written t (take (length l - to) (drop to l)) part m → take to l ++ (part ++ drop (length l - to) (drop to l)) ≡ over l to (flat t)
written_over {t} {part} {m} l to h w =
    let long = flat_size t in
    let fits : m ≤ length l - to = subst (λ k. m ≤ k) (part_length l to) w.fits in
    let same : part ≡ flat t ++ drop m (drop to l) = w.writes ∙ ap (λ z. flat t ++ drop m z) (part_is l to) in
    part_back l part to ∙ ap (λ z. take to l ++ z) same ∙ part_over l (flat t) to m (w.count ∙ sym long) (omega (arith, fits))
