-- A step stands at the front of bytes exactly when they are as many as its head says. Assumes nothing.
use Rattle.std.proofs.Common.{◌≡◌, ℕ, suc, ◌+◌, ◌-◌, ◌*◌, ◌/◌, ◌%◌, ◌^◌, ◌<◌, ◌≤◌, List, [], ◌∷◌, ◌++◌, length, get_or, take, drop, replicate, sym, refl, ap, ◌∙◌, subst, append_assoc, append-nil, arith, length-append, length-drop, take-append-drop, length-take, w32}
use lib.ListN.{length-replicate}
use Rattle.std.proofs.lemmas.List.{drop_more, drop-drop, drop_all, get_or-take}
use Rattle.terms.specs.Lists.{All}
use Rattle.cell_bytes.specs.Holding.{Lacking}
use Rattle.cell_bytes.proofs.Fills.{Bytes, bytes_drop, bytes_take, bytes_padded, get_or_padded}
use Rattle.runs.specs.Steps.{Step}
use Rattle.records.specs.Records.{head_of, spell_step, Spelt}
use Rattle.records.specs.Reading.{Stands}
use Rattle.std.specs.Int.{from_be_bytes}
use Rattle.std.specs.List.{IsSplitAt}

-- the number that the first four bytes make
abbrev pub leading : List ℕ → ℕ
leading l = get_or l 0 0 * 2 ^ 24 + get_or l 1 0 * 2 ^ 16 + get_or l 2 0 * 2 ^ 8 + get_or l 3 0

pub leading_is : (l first : List ℕ) (n : ℕ) → first ≡ take 4 l → n ≡ from_be_bytes w32 first → n ≡ leading l
leading_is l first n e f = omega (arith, f, at 0 (omega arith), at 1 (omega arith), at 2 (omega arith), at 3 (omega arith))
  where
    at : (k : ℕ) → k < 4 → get_or first k 0 ≡ get_or l k 0
    at k h = ap (λ t. get_or t k 0) e ∙ get_or-take 4 l k 0 h

-- what a head says: the lengths of place and inner place, and of the step
abbrev pub places : List ℕ → ℕ
places l = leading l / 2 ^ 17 % 512

abbrev pub inners : List ℕ → ℕ
inners l = leading l / 2 ^ 8 % 512

abbrev pub size : List ℕ → ℕ
size l = 4 + places l + inners l

-- the step at the front
abbrev pub front : List ℕ → Step
front l =
    record { rule = leading l / 2 ^ 26; place = take (places l) (drop 4 l); argument = leading l % 256; inner = take (inners l) (drop (4 + places l) l) }

pub entries : (l : List ℕ) → Bytes l → All (λ j. j < 2 ^ 8) l
entries [] b = tt
entries (x ∷ l) b = (b 0, entries l (λ k. b (suc k)))

four : (l : List ℕ) → 4 ≤ length l → l ≡ get_or l 0 0 ∷ get_or l 1 0 ∷ get_or l 2 0 ∷ get_or l 3 0 ∷ drop 4 l
four l h =
    let a = drop_more l 0 0 (omega arith) in
    let b = drop_more l 1 0 (omega arith) in
    let c = drop_more l 2 0 (omega arith) in
    let d = drop_more l 3 0 (omega arith) in
    cc

-- the four bytes of a head
head_bytes : (a b c d : ℕ) → a < 256 → b < 256 → c < 256 → d < 256 → (h : ℕ) → h ≡ a * 2 ^ 24 + b * 2 ^ 16 + c * 2 ^ 8 + d →
    h / 2 ^ 24 ∷ h / 2 ^ 16 % 256 ∷ h / 2 ^ 8 % 256 ∷ h % 256 ∷ [] ≡ a ∷ b ∷ c ∷ d ∷ []
head_bytes a b c d la lb lc ld h e =
    let p : h / 2 ^ 24 ≡ a = omega arith in
    let q : h / 2 ^ 16 % 256 ≡ b = omega arith in
    let r : h / 2 ^ 8 % 256 ≡ c = omega arith in
    let s : h % 256 ≡ d = omega arith in
    cc

-- a head is made of its four fields again
fields : (h p i : ℕ) → p ≡ h / 2 ^ 17 % 512 → i ≡ h / 2 ^ 8 % 512 → h / 2 ^ 26 * 2 ^ 26 + p * 2 ^ 17 + i * 2 ^ 8 + h % 256 ≡ h
fields h p i e f = omega arith

module _ (l : List ℕ) (b : Bytes l) (h : size l ≤ length l) where
  place_long : length (front l).place ≡ places l
  place_long = simp (length-take, length-drop) (omega arith)

  inner_long : length (front l).inner ≡ inners l
  inner_long = simp (length-take, length-drop) (omega arith)

  leading_small : leading l < 2 ^ 32
  leading_small = omega (arith, b 0, b 1, b 2, b 3)

  pub front_spelt : Spelt (front l)
  front_spelt =
      let small = leading_small in
      let p = place_long in
      let i = inner_long in
      record { rule = omega arith; place = omega arith; inner = omega arith; argument = omega arith; place_entries = entries _ (bytes_take (places l) (drop 4 l) (bytes_drop 4 l b)); inner_entries = entries _ (bytes_take (inners l) (drop (4 + places l) l) (bytes_drop (4 + places l) l b)) }

  pub front_reads : l ≡ spell_step (front l) ++ drop (size l) l
  front_reads =
      let made = fields (leading l) (length (front l).place) (length (front l).inner) place_long inner_long in
      let first = head_bytes (get_or l 0 0) (get_or l 1 0) (get_or l 2 0) (get_or l 3 0) (b 0) (b 1) (b 2) (b 3) (head_of (front l)) made in
      let mid : drop 4 l ≡ (front l).place ++ drop (4 + places l) l = sym (take-append-drop (places l) (drop 4 l)) ∙ ap (λ t. (front l).place ++ t) (drop-drop (places l) 4 l) in
      let last : drop (4 + places l) l ≡ (front l).inner ++ drop (size l) l = sym (take-append-drop (inners l) (drop (4 + places l) l)) ∙ ap (λ t. (front l).inner ++ t) (drop-drop (inners l) (4 + places l) l) in
      four l (omega arith) ∙ ap (λ t. (get_or l 0 0 ∷ get_or l 1 0 ∷ get_or l 2 0 ∷ get_or l 3 0 ∷ []) ++ t) (mid ∙ ap (λ t. (front l).place ++ t) last ∙ sym (append_assoc (front l).place (front l).inner (drop (size l) l))) ∙ ap (λ t. t ++ (((front l).place ++ (front l).inner) ++ drop (size l) l)) (sym first)

  pub front_long : length (spell_step (front l)) ≡ size l
  front_long =
      let p = place_long in
      let i = inner_long in
      simp length-append (omega arith)

same_leading : (l : List ℕ) (n : ℕ) → leading (l ++ replicate n 0) ≡ leading l
same_leading l n =
    let a = get_or_padded l n 0 in
    let b = get_or_padded l n 1 in
    let c = get_or_padded l n 2 in
    let d = get_or_padded l n 3 in
    omega arith

-- fewer bytes than the head says begin a step
pub lacks : (l : List ℕ) → Bytes l → length l < size l → Lacking Spelt spell_step l (length l)
lacks l b h =
    let m = size l - length l - 1 in
    let p = l ++ replicate (suc m) 0 in
    let same = same_leading l (suc m) in
    let long : length p ≡ size p = simp (length-append, length-replicate) (omega arith) in
    let fit = bytes_padded l (suc m) b in
    record {
      it = front p;
      good = front_spelt p fit (omega arith);
      byte = 0;
      more = replicate m 0;
      begun = front_reads p fit (omega arith) ∙ ap (λ t. spell_step (front p) ++ t) (drop_all (size p) p (omega arith)) ∙ append-nil (spell_step (front p));
      is = refl;
    }

-- the same by the head's number, with the entries split off the bytes behind it
pub stands_cut : (l : List ℕ) → Bytes l → (h : ℕ) → h ≡ leading l → 4 ≤ length l → (s : Step) (behind mid rest : List ℕ) → behind ≡ drop 4 l → s.rule ≡ h / 2 ^ 26 → s.argument ≡ h % 256 →
    IsSplitAt behind (h / 2 ^ 17 % 512) s.place mid → IsSplitAt mid (h / 2 ^ 8 % 512) s.inner rest → Stands l s rest
stands_cut l b h e four_are s behind mid rest is_behind rule argument first second =
    let p : h / 2 ^ 17 % 512 ≡ places l = ap (λ n. n / 2 ^ 17 % 512) e in
    let i : h / 2 ^ 8 % 512 ≡ inners l = ap (λ n. n / 2 ^ 8 % 512) e in
    let mid_is : mid ≡ drop (4 + places l) l = first.2 ∙ ap (λ n. drop n behind) p ∙ ap (drop (places l)) is_behind ∙ drop-drop (places l) 4 l in
    let place_is : s.place ≡ take (places l) (drop 4 l) = first.1 ∙ ap (λ n. take n behind) p ∙ ap (take (places l)) is_behind in
    let inner_is : s.inner ≡ take (inners l) (drop (4 + places l) l) = second.1 ∙ ap (λ n. take n mid) i ∙ ap (take (inners l)) mid_is in
    let rest_is : rest ≡ drop (size l) l = second.2 ∙ ap (λ n. drop n mid) i ∙ ap (drop (inners l)) mid_is ∙ drop-drop (inners l) (4 + places l) l in
    let fits : size l ≤ length l = room (length l) (length behind) (length mid) _ _ _ _ p i four_are (ap length is_behind ∙ length-drop 4 l) first.4 first.0 second.0 in
    let is : s ≡ front l = same (rule ∙ ap (λ n. n / 2 ^ 26) e) place_is (argument ∙ ap (λ n. n % 256) e) inner_is in
    record {
      spelt = subst Spelt (sym is) (front_spelt l b fits);
      reads = front_reads l b fits ∙ ap (λ t. spell_step (front l) ++ t) (sym rest_is) ∙ ap (λ x. spell_step x ++ rest) (sym is);
    }
  where
    same : {s t : Step} → s.rule ≡ t.rule → s.place ≡ t.place → s.argument ≡ t.argument → s.inner ≡ t.inner → s ≡ t
    same e f g h = λ i. record { rule = e i; place = f i; argument = g i; inner = h i }

    room : (all behind middle p' p i' i : ℕ) → p' ≡ p → i' ≡ i → 4 ≤ all → behind ≡ all - 4 → middle + p' ≡ behind → p' ≤ behind → i' ≤ middle → 4 + p + i ≤ all
    room all behind middle p' p i' i a b c d e f g = omega arith

-- fewer bytes than its head's number says: the place's entries do not fit, or the inner place's
pub place_lacks : (l : List ℕ) (h : ℕ) → h ≡ leading l → (behind : List ℕ) → behind ≡ drop 4 l → length behind < h / 2 ^ 17 % 512 → length l < size l
place_lacks l h e behind b few = short (length l) (length behind) _ _ (inners l) (ap (λ n. n / 2 ^ 17 % 512) e) (ap length b ∙ length-drop 4 l) few
  where
    short : (all behind p' p i : ℕ) → p' ≡ p → behind ≡ all - 4 → behind < p' → all < 4 + p + i
    short all behind p' p i a b c = omega arith

pub inner_lacks : (l : List ℕ) (h : ℕ) → h ≡ leading l → (behind : List ℕ) → behind ≡ drop 4 l → (place mid : List ℕ) → IsSplitAt behind (h / 2 ^ 17 % 512) place mid → length mid < h / 2 ^ 8 % 512 → length l < size l
inner_lacks l h e behind b place mid first few =
    short (length l) (length behind) (length mid) _ _ _ _ (ap (λ n. n / 2 ^ 17 % 512) e) (ap (λ n. n / 2 ^ 8 % 512) e) (ap length b ∙ length-drop 4 l) first.4 few
  where
    short : (all behind middle p' p i' i : ℕ) → p' ≡ p → i' ≡ i → behind ≡ all - 4 → middle + p' ≡ behind → middle < i' → all < 4 + p + i
    short all behind middle p' p i' i a b c d e = omega arith
