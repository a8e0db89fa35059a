-- Cells that are one term, and terms that stand for variables. Assumes nothing.
use Rattle.std.proofs.Common.{◌≡◌, ℕ, zero, suc, ◌+◌, ◌-◌, Bool, true, false, cond, eqb, ltb, List, [], ◌∷◌, ◌++◌, length, map, take, drop, Some, None, Option, Result, sym, refl, ap, ◌∙◌, subst, append-nil, arith, length-append, Bor}
use Rattle.std.specs.Option.{ok_or}
use Rattle.std.proofs.Math.Seq.{take-append_seam}
use Rattle.std.proofs.lemmas.Bool.Decides.{nat_tests}
use Rattle.terms.specs.Rows.{Row, flat, size, var, «for», instead}
use Rattle.terms.specs.Standing.{Stands}
use Rattle.terms.specs.Terms.{TreeOf}
use Rattle.terms.proofs.Trees.{flat_size}
use Rattle.moves.specs.declared.images.Image.TheVariants.{Tree, Number}
use Rattle.moves.specs.declared.images.Substitution.{Substitution}
use Rattle.moves.specs.declared.images.Substitution.TheVariants.{Replace, Instead, Bindings}
use Rattle.moves.specs.declared.images.Image.{Image}
use Rattle.moves.specs.declared.Unmoved.{Unmoved}
use Rattle.moves.specs.declared.Unmoved.TheVariants.{NoRoom}
use Rattle.moves.specs.Moved.{MovedWith, put}
use Rattle.moves.specs.Substitutions.{Put}
use Rattle.moves.specs.Images.{bound_of, image_of, extent, Shown, Shows, Sizes, Puts, puts}

-- one tree that fills its cells
pub term_stands : {cells : List ℕ} {t : Row} → TreeOf cells t → Stands t 1 cells 0
term_stands {cells} {t} is = record { counted = is.counted; wide = is.one; rest = []; reads = append-nil (flat t) ∙ is.reads }

pub term_size : {cells : List ℕ} {t : Row} → TreeOf cells t → size t ≡ length cells
term_size {cells} {t} is = sym (flat_size t) ∙ ap length is.reads

no_more : (xs ys zs : List ℕ) → xs ++ ys ≡ zs → length xs ≡ length zs → xs ≡ zs
no_more xs [] zs e l = sym (append-nil xs) ∙ e
no_more xs (y ∷ ys) zs e l = absurd (omega (arith, length-append xs (y ∷ ys), ap length e))

pub stands_term : {cells : List ℕ} {t : Row} → Stands t 1 cells 0 → size t ≡ length cells → TreeOf cells t
stands_term {cells} {t} st e =
    record { one = st.wide; counted = st.counted; reads = no_more (flat t) st.rest cells st.reads (flat_size t ∙ e) }

-- the cells of a tree, cut out
pub part_tree : {t : Row} {at e : ℕ} {cells : List ℕ} → Stands t 1 cells at → e ≡ at + size t → TreeOf (take (e - at) (drop at cells)) t
part_tree {t} {at} {e} {cells} st h =
    let n : e - at ≡ length (flat t) = omega (arith, h, flat_size t) in
    record { one = st.wide; counted = st.counted; reads = sym (ap (λ k. take k (drop at cells)) n ∙ ap (take (length (flat t))) (sym st.reads) ∙ take-append_seam (flat t) st.rest) }

-- a tree for the nearest binder
pub shows_instead : (value : Bor (List ℕ)) (v : Row) → TreeOf value.now v → Shows (Instead value) (instead v)
shows_instead value v is zero = is
shows_instead value v is (suc n) =
    let k : eqb (suc n) 0 ≡ false = grind (arith, nat_tests) in
    let m : n ≡ suc n - 1 = omega arith in
    subst (λ q. Shown (cond q (Tree value) (Number (suc n - 1))) (var n)) (sym k) (ap var m)

-- a tree for x
pub shows_replace : (value : Bor (List ℕ)) (v : Row) (x : ℕ) → TreeOf value.now v → Shows (Replace x value) («for» v x)
shows_replace value v x is n = go (eqb n x)
  where
    go : (q : Bool) → Shown (cond q (Tree value) (Number n)) (cond q v (var n))
    go true = is
    go false = refl

-- the value's cells hold the tree that is put
pub shows_value : (how : Substitution) (value : List ℕ) (v : Row) → TreeOf value v → Puts how value → Shows how (puts how v)
shows_value (Replace x a) value v is h = shows_replace a v x (subst (λ l. TreeOf l v) (sym h) is)
shows_value (Instead a) value v is h = shows_instead a v (subst (λ l. TreeOf l v) (sym h) is)
shows_value (Bindings bs) value v is h = go bs.now h
  where
    one : (b : Bor (List ℕ)) → b.now ≡ value → (n : ℕ) → Shown (bound_of (b ∷ []) n) («for» v 0 n)
    one b e zero = subst (λ l. TreeOf l v) (sym e) is
    one b e (suc n) =
        let k : ltb (suc n) 1 ≡ false = grind (arith, nat_tests) in
        let l : eqb (suc n) 0 ≡ false = grind (arith, nat_tests) in
        rw (k, l) refl

    go : (l : List (Bor (List ℕ))) → map (λ b. b.now) l ≡ value ∷ [] → (n : ℕ) → Shown (bound_of l n) («for» v 0 n)
    go [] e = let z : ◌≡◌ {A = ℕ} 0 1 = cc in absurd (omega arith)
    go (b ∷ []) e = one b (cc)
    go (b ∷ (d ∷ l)) e = absurd (omega (arith, ap length e))

-- a tree has as many cells as its image
shown_size : (i : Image) (t : Row) → Shown i t → extent i ≡ size t
shown_size (Tree v) t h = sym (term_size h)
shown_size (Number m) t h = sym (ap size h)

pub shows_sizes : (how : Substitution) (s : ℕ → Row) → Shows how s → Sizes how s
shows_sizes how s h n = shown_size (image_of how n) (s n) (h n)

-- what the putting answers, as the call does
pub moved_with : (how : Substitution) (cells value space space' : List ℕ) {t v : Row} (o : Option ℕ) {r : Result ℕ Unmoved} → r ≡ ok_or o NoRoom → TreeOf cells t → TreeOf value v → Put (put how v t) space space' o → MovedWith (put how) cells value space space' r
moved_with how cells value space space' {t} {v} (Some n) e a b h = subst (MovedWith (put how) cells value space space') (sym e) (t, v, a, b, h)
moved_with how cells value space space' {t} {v} None e a b h = subst (MovedWith (put how) cells value space space') (sym e) (h.0, (t, v, a, b, h.1))
