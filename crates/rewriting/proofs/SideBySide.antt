-- Rows of trees side by side: lawful ones, their free variables, their trees by number. Assumes nothing.
use Rattle.std.proofs.Common.{◌≡◌, ℕ, zero, suc, ◌<◌, Bool, true, false, ◌&&◌, List, [], ◌++◌, length, replicate, sym, refl, ap, ◌∙◌, subst, append_assoc, arith}
use lib.ListN.{length-replicate}
use Rattle.terms.specs.Cells.{binder}
use Rattle.terms.specs.Rows.{Row, width, ◌&◌, fvs, frees, own, above, pick}
use Rattle.terms.specs.Rows.Row.{none, node}
use Rattle.terms.proofs.Inject.{lawful_width, width-&}
use Rattle.terms.proofs.Moves.{ground}
use Rattle.lets.specs.Syntax.{Sort, admits, kids, Lawful, Term, Terms, light}
use Rattle.lets.specs.Syntax.Sort.{term}
use Rattle.lets.specs.Figure.{binding}
use Rattle.lets.specs.Lightness.{LightAsked}
use Rattle.moves.specs.Images.{nothing}
use Rattle.rewriting.specs.Matchings.{LightBound}
use Rattle.std.specs.Borrow.{Bor}
use Rattle.std.specs.Bool.{MatchBool}
use Rattle.std.specs.List.{AllWithin, HoldsAt}

-- each tree of the sort
abbrev pub Each : Sort → Row → Type 0
Each s t = Lawful (replicate (width t) s) t

pub each_of : (s : Sort) (k : ℕ) (r : Row) → Lawful (replicate k s) r → Each s r
each_of s k r h =
    let w : width r ≡ k = lawful_width admits kids (replicate k s) r h ∙ length-replicate k s in
    subst (λ n. Lawful (replicate n s) r) (sym w) h

pub each-& : (s : Sort) (a b : Row) → Each s a → Each s b → Each s (a & b)
each-& s none b h k = k
each-& s (node c ks r) b h k = (h.0, h.1, each-& s r b h.2 k)

pub fvs-& : (a b : Row) → fvs (a & b) ≡ fvs a ++ fvs b
fvs-& none b = refl
fvs-& (node c ks r) b =
    let e = ground (r & b) ∙ sym (ground r) in
    ap (λ n. own n c ++ (frees n (binder c) ks ++ fvs (r & b))) e ∙ ap (λ l. own (above 0 0 r) c ++ (frees (above 0 0 r) (binder c) ks ++ l)) (fvs-& r b) ∙ simp append_assoc

-- the first of two rows is one tree
pub pick_first : (a b : Row) → width a ≡ 1 → pick (a & b) 0 [] ≡ a
pick_first none b w = absurd (omega arith)
pick_first (node c ks none) b w = refl
pick_first (node c ks (node d js r)) b w = absurd (omega arith)

pub pick_next : (a b : Row) (x : ℕ) → width a ≡ 1 → pick (a & b) (suc x) [] ≡ pick b x []
pick_next none b x w = absurd (omega arith)
pick_next (node c ks none) b x w = refl
pick_next (node c ks (node d js r)) b x w = absurd (omega arith)

-- the trees f 0 to f (n - 1) side by side
abbrev pub side : ℕ → (ℕ → Row) → Row
side zero f = none
side (suc n) f = f 0 & side n (λ x. f (suc x))

pub side_wide : (n : ℕ) (f : ℕ → Row) → ((x : ℕ) → x < n → width (f x) ≡ 1) → width (side n f) ≡ n
side_wide zero f h = refl
side_wide (suc n) f h =
    omega (arith, width-& (f 0) (side n (λ x. f (suc x))), h 0 (omega arith), side_wide n (λ x. f (suc x)) (λ x l. h (suc x) (omega arith)))

pub side_pick : (n : ℕ) (f : ℕ → Row) → ((x : ℕ) → x < n → width (f x) ≡ 1) → (x : ℕ) → x < n → pick (side n f) x [] ≡ f x
side_pick zero f h x l = absurd (omega arith)
side_pick (suc n) f h zero l = pick_first (f 0) (side n (λ x. f (suc x))) (h 0 (omega arith))
side_pick (suc n) f h (suc x) l =
    pick_next (f 0) (side n (λ x. f (suc x))) x (h 0 (omega arith)) ∙ side_pick n (λ x. f (suc x)) (λ y m. h (suc y) (omega arith)) x (omega arith)

pub side_terms : (n : ℕ) (f : ℕ → Row) → ((x : ℕ) → x < n → Term (f x)) → Terms (side n f)
side_terms zero f h = tt
side_terms (suc n) f h =
    each-& term (f 0) (side n (λ x. f (suc x))) (each_of term 1 (f 0) (h 0 (omega arith))) (side_terms n (λ x. f (suc x)) (λ x l. h (suc x) (omega arith)))

-- each tree of terms is a term
pub each_term : (θ : Row) (x : ℕ) → Terms θ → x < width θ → Term (binding θ x)
each_term none x h l = absurd (omega arith)
each_term (node c ks r) zero h l = (h.0, h.1, tt)
each_term (node c ks r) (suc x) h l = each_term r x h.2 (omega arith)

-- light exactly if each tree is
pub all_light : (θ : Row) → ((x : ℕ) → x < width θ → light (binding θ x) ≡ true) → light θ ≡ true
all_light none h = refl
all_light (node c ks r) h = both _ (light r) (h 0 (omega arith)) (all_light r (λ x l. h (suc x) (omega arith)))
  where
    both : (a b : Bool) → (a && true) ≡ true → b ≡ true → (a && b) ≡ true
    both true b p q = q
    both false b p q = p

pub not_light : (θ : Row) (x : ℕ) → x < width θ → light (binding θ x) ≡ false → light θ ≡ false
not_light none x l h = absurd (omega arith)
not_light (node c ks r) zero l h = first _ (light r) h
  where
    first : (a b : Bool) → (a && true) ≡ false → (a && b) ≡ false
    first true b p = absurd (let z : ◌≡◌ {A = ℕ} 0 1 = cc p in omega arith)
    first false b p = refl
not_light (node c ks r) (suc x) l h = second _ (light r) (not_light r x (omega arith) h)
  where
    second : (a b : Bool) → b ≡ false → (a && b) ≡ false
    second true b p = p
    second false b p = refl

-- the bindings are light exactly if each of their cells are
pub bindings_light : (values : List (Bor (List ℕ))) (r : Bool) → MatchBool r (AllWithin (λ v. LightAsked v.now true) values 0 (length values)) ((k : ℕ) × (k < length values) × HoldsAt (λ v. LightAsked v.now false) values k) → LightBound values r
bindings_light values true a θ b =
    sym (all_light θ (λ x l. sym (a x nothing (omega arith) (omega (arith, b.wide)) 1 (binding θ x) (each_term θ x b.terms l) (b.reads x (omega (arith, b.wide))))))
bindings_light values false (k, l, heavy) θ b =
    let w : k < width θ = omega (arith, b.wide) in
    sym (not_light θ k w (sym (heavy nothing 1 (binding θ k) (each_term θ k b.terms w) (b.reads k l))))
