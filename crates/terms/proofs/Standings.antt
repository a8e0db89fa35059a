-- A row stands at a cell in one way at most. Assumes nothing.
use Rattle.std.proofs.Common.{◌≡◌, ℕ, ◌+◌, ◌^◌, ◌<◌, List, ◌++◌, drop, Some, None, Option, refl, sym, ap, ◌∙◌, subst}
use Rattle.std.specs.Option.{IsSome}
use Rattle.std.proofs.Props.{props}
use Rattle.std.proofs.Math.Logic.{∥∥₁_elim}
use Rattle.std.specs.Coded.{Unit-prop}
use Rattle.terms.specs.Cells.{children}
use Rattle.std.proofs.lemmas.List.{append_cancel_left}
use mathlib.Core.HLevel.{Σ_prop_path}
use Rattle.terms.specs.Rows.{Row, flat, size, width, Counted}
use Rattle.terms.specs.Rows.Row.{none, node}
use Rattle.terms.specs.Standing.{Stands, Standing, Ends}
use Rattle.terms.proofs.Trees.{same}

counted_prop : (t : Row) → IsProp (Counted t)
counted_prop none u v = Unit-prop u v
counted_prop (node c ks r) u v =
    let small : IsProp (c < 2 ^ 64) = Prim.hlevel props in
    let wide : IsProp (children c ≡ width ks) = Prim.hlevel props in
    λ i. (small u.0 v.0 i, wide u.1 v.1 i, counted_prop ks u.2 v.2 i, counted_prop r u.3 v.3 i)

-- what it is to stand, as a product
abbrev Parts : Row → ℕ → List ℕ → ℕ → Type 0
Parts t n cells at = Counted t × (width t ≡ n) × ((rest : List ℕ) × (flat t ++ rest ≡ drop at cells))

abbrev whole : {t : Row} {n at : ℕ} {cells : List ℕ} → Parts t n cells at → Stands t n cells at
whole p = record { counted = p.0; wide = p.1; rest = p.2.0; reads = p.2.1 }

rest_prop : (t : Row) (xs : List ℕ) → IsProp ((rest : List ℕ) × (flat t ++ rest ≡ xs))
rest_prop t xs u v =
    let equal : (r : List ℕ) → IsProp (flat t ++ r ≡ xs) = λ r. Prim.hlevel props in
    Σ_prop_path equal (append_cancel_left (flat t) u.0 v.0 (u.1 ∙ sym v.1))

pub stands_prop : (t : Row) (n : ℕ) (cells : List ℕ) (at : ℕ) → IsProp (Stands t n cells at)
stands_prop t n cells at u v =
    let wide : IsProp (width t ≡ n) = Prim.hlevel props in
    ap whole (λ i. (counted_prop t u.counted v.counted i, wide u.wide v.wide i, rest_prop t (drop at cells) (u.rest, u.reads) (v.rest, v.reads) i))

-- trees of one number at one cell are the same
pub stands_same : {s t : Row} {n at : ℕ} {cells : List ℕ} → Stands s n cells at → Stands t n cells at → s ≡ t
stands_same {s} {t} p q = (same s t p.rest q.rest p.counted q.counted (p.wide ∙ sym q.wide) (p.reads ∙ sym q.reads)).0

standing_prop : (n : ℕ) (cells : List ℕ) (at : ℕ) → IsProp (Standing n cells at)
standing_prop n cells at u v = Σ_prop_path (λ t. stands_prop t n cells at) (stands_same u.1 v.1)

-- where some row stands, it is known which
pub standing : {n : ℕ} {cells : List ℕ} {at : ℕ} → ∥ Standing n cells at ∥₁ → Standing n cells at
standing {n} {cells} {at} s = ∥∥₁_elim s (standing_prop n cells at) (λ k. k)

-- so they end
pub some_end : {n : ℕ} {cells : List ℕ} {at : ℕ} (r : Option ℕ) → Ends n cells at r → Standing n cells at → IsSome r
some_end (Some e) h s = refl
some_end None h s = absurd (h s.0 s.1)

pub end_is : {n : ℕ} {cells : List ℕ} {at e : ℕ} (r : Option ℕ) → Ends n cells at r → r ≡ Some e → (t : Row) → Stands t n cells at → e ≡ at + size t
end_is {n} {cells} {at} {e} r h i t s =
    let k = subst (Ends n cells at) i h in
    k.2 ∙ ap (λ u. at + size u) (stands_same k.1 s)
