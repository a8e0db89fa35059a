-- Steps in bytes are read in one way. Assumes nothing.
use Rattle.std.proofs.Common.{◌≡◌, ℕ, ◌+◌, ◌*◌, ◌/◌, ◌%◌, ◌^◌, ◌<◌, List, [], ◌∷◌, ◌++◌, length, sym, refl, ◌∙◌, append_assoc, arith}
use Rattle.cell_bytes.specs.Spelling.{spell}
use Rattle.cell_bytes.proofs.Ends.{Delimited, many_end, by_bytes, over_16, over_8}
use Rattle.records.specs.Records.{head_of, spell_step, Spelt, Steps}

-- lists of one length, with more behind them
same_length : (xs ys a b : List ℕ) → length xs ≡ length ys → xs ++ a ≡ ys ++ b → (xs ≡ ys) × (a ≡ b)
same_length [] [] a b l e = (refl, e)
same_length [] (y ∷ ys) a b l e = absurd (omega arith)
same_length (x ∷ xs) [] a b l e = absurd (omega arith)
same_length (x ∷ xs) (y ∷ ys) a b l e =
    let hd : x ≡ y = cc e in
    let tl : xs ++ a ≡ ys ++ b = cc e in
    let r = same_length xs ys a b (omega arith) tl in
    (cc (hd, r.0), r.1)

head_parts : (r p i a r' p' i' a' : ℕ) → p < 2 ^ 9 → i < 2 ^ 9 → a < 2 ^ 8 → p' < 2 ^ 9 → i' < 2 ^ 9 → a' < 2 ^ 8 → r * 2 ^ 26 + p * 2 ^ 17 + i * 2 ^ 8 + a ≡ r' * 2 ^ 26 + p' * 2 ^ 17 + i' * 2 ^ 8 + a' → (r ≡ r') × (p ≡ p') × (i ≡ i') × (a ≡ a')
head_parts r p i a r' p' i' a' h₁ h₂ h₃ h₄ h₅ h₆ e = (omega arith, omega arith, omega arith, omega arith)

pub step_ends : Delimited Spelt spell_step
step_ends s t a b p q e =
    let e₃ : head_of s / 2 ^ 24 ≡ head_of t / 2 ^ 24 = cc e in
    let e₂ : head_of s / 2 ^ 16 % 256 ≡ head_of t / 2 ^ 16 % 256 = cc e in
    let e₁ : head_of s / 2 ^ 8 % 256 ≡ head_of t / 2 ^ 8 % 256 = cc e in
    let e₀ : head_of s % 256 ≡ head_of t % 256 = cc e in
    let rest : (s.place ++ s.inner) ++ a ≡ (t.place ++ t.inner) ++ b = cc e in
    let f₂ : head_of s / 2 ^ 16 ≡ head_of t / 2 ^ 16 = by_bytes (head_of s / 2 ^ 16) (head_of t / 2 ^ 16) (over_16 (head_of s) ∙ e₃ ∙ sym (over_16 (head_of t))) e₂ in
    let f₁ : head_of s / 2 ^ 8 ≡ head_of t / 2 ^ 8 = by_bytes (head_of s / 2 ^ 8) (head_of t / 2 ^ 8) (over_8 (head_of s) ∙ f₂ ∙ sym (over_8 (head_of t))) e₁ in
    let f₀ : head_of s ≡ head_of t = by_bytes (head_of s) (head_of t) f₁ e₀ in
    let h = head_parts s.rule (length s.place) (length s.inner) s.argument t.rule (length t.place) (length t.inner) t.argument p.place p.inner p.argument q.place q.inner q.argument f₀ in
    let x = same_length s.place t.place (s.inner ++ a) (t.inner ++ b) h.1 (sym (append_assoc s.place s.inner a) ∙ rest ∙ append_assoc t.place t.inner b) in
    let y = same_length s.inner t.inner a b h.2 x.1 in
    (same_step h.0 x.0 h.3 y.0, y.1)
  where
    same_step : s.rule ≡ t.rule → s.place ≡ t.place → s.argument ≡ t.argument → s.inner ≡ t.inner → s ≡ t
    same_step e f g h = λ i. record { rule = e i; place = f i; argument = g i; inner = h i }

pub steps_end : (n : ℕ) → Delimited (Steps n) (spell spell_step)
steps_end n = many_end Spelt spell_step n step_ends
