use Rattle.std.proofs.Common.{◌≡◌, ℕ, ◌<◌, ◌≤◌, [], ◌∷◌, length, Ok, Err, sym, refl, ap, ◌∙◌, subst₂, inl, inr, ⊎_elim, arith}
use mathlib.Core.Bool.{false≢true}
use Rattle.std.proofs.lemmas.Bool.Decides.{nat_tests}
use Rattle.calculus.specs.Line as Line
use Rattle.terms.specs.Lists.{In}
use Rattle.terms.specs.Cells.{cell}
use Rattle.terms.specs.Rows.{Row, width, kind_of, ◌&◌, var, flat, fvs}
use Rattle.terms.specs.Rows.Row.{none}
use Rattle.terms.proofs.Inject.{under, inj-&, lawful_width, width-&, single, empty}
use Rattle.lets.specs.Syntax.{con, fun, marked, let_in, admits, kids, light, Program}
use Rattle.lets.specs.Syntax.Sort.{term}
use Rattle.lets.specs.Figure.{Says, HasRule, Apt, line, Let, Called, Match}
use Rattle.lets.specs.Examples.{sharing, Examples}

-- the answers
module _ (program : Row) (n argument : ℕ) (t : Row) (h : HasRule n) (a : Apt program n argument []) where
  ok : (u : Row) → Line.Gives (line n program argument t) u → Says program n argument [] t (Ok u)
  ok u g = (h, a, g)

  no12 : Line.NoForm (line n program argument t) → Says program n argument [] t (Err 12)
  no12 g = inr (inr (inl (refl, h, a, g)))

  no13 : Line.FormOnly (line n program argument t) → Says program n argument [] t (Err 13)
  no13 g = inr (inr (inr (inl (refl, h, a, g))))

apt : (program : Row) (n : ℕ) → 2 ≤ n → Apt program n 0 []
apt program n h = (refl, (λ e. absurd (omega (arith, e)), λ e. refl))

-- the parts of a let
let_parts : (a e : Row) → width a ≡ 1 → (l : Let (let_in a e)) → (l.a ≡ a) × (l.e ≡ e)
let_parts a e w l =
    let k = inj-& a e l.a l.e (w ∙ sym (lawful_width admits kids (term ∷ []) l.a l.letters.0)) (ap under l.is) in
    (sym k.0, sym k.1)

abbrev twice : Row
twice = con 1 (var 0 & var 0)

pub heavy : Says none 3 0 [] (let_in (fun 3 none) twice) (Err 13)
unfolding admits kids
heavy = no13 none 3 0 (let_in (fun 3 none) twice) (omega arith) (apt none 3 (omega arith)) (
  record { a = fun 3 none; e = twice; letters = ((refl, tt, tt), (refl, (refl, tt, (refl, tt, tt)), tt)); is = refl },
  λ l h. false≢true (sym (ap light (let_parts (fun 3 none) twice refl l).0) ∙ h),
)

pub doubled : Says none 3 0 [] (let_in (marked 3 none) twice) (Ok (con 1 (marked 3 none & marked 3 none)))
unfolding admits kids
doubled = ok none 3 0 (let_in (marked 3 none) twice) (omega arith) (apt none 3 (omega arith)) (con 1 (marked 3 none & marked 3 none))
    (record { a = marked 3 none; e = twice; letters = ((refl, tt, tt), (refl, (refl, tt, (refl, tt, tt)), tt)); is = refl }, refl, tt, refl)

pub lowered : Says none 3 0 [] (let_in (var 7) (let_in (var 0) (con 1 (var 1 & var 2)))) (Ok (let_in (var 7) (con 1 (var 8 & var 1))))
unfolding admits kids
lowered = ok none 3 0 (let_in (var 7) (let_in (var 0) (con 1 (var 1 & var 2)))) (omega arith) (apt none 3 (omega arith)) (let_in (var 7) (con 1 (var 8 & var 1)))
    (record { a = var 7; e = let_in (var 0) (con 1 (var 1 & var 2)); letters = ((refl, tt, tt), (refl, (refl, tt, (refl, (refl, tt, (refl, tt, tt)), tt)), tt)); is = refl }, refl, tt, refl)

abbrev right : Row
right = let_in (fun 3 none) (con 1 (var 1 & var 0))

pub program : Program (flat sharing) sharing
unfolding admits kids
program = record {
  rules = (
    record {
      l = fun 4 (var 0);
      r = right;
      is = refl;
      layout = record { single = refl; formed = omega arith; cells = omega arith; deep = omega arith; low = λ x h. low x h };
      lawful = ((refl, (refl, tt, tt), tt), (refl, (refl, tt, (refl, (refl, tt, (refl, tt, tt)), tt)), tt));
      once = λ x. grind (arith, nat_tests);
      below = λ x h. below x h;
    },
    tt,
  );
  few = omega arith;
  reads = refl;
}
  where
    low : (x : ℕ) → In x (0 ∷ 0 ∷ []) → x < 1024
    low x (inl e) = omega (arith, e)
    low x (inr (inl e)) = omega (arith, e)
    low x (inr (inr e)) = absurd e

    below : (x : ℕ) → In x (0 ∷ []) → x < 1
    below x (inl e) = omega (arith, e)
    below x (inr e) = absurd e

abbrev given : Row
given = let_in (fun 3 none) (con 1 (var 4 & var 0))

pub called : Says sharing 1 0 [] (fun 4 (var 3)) (Ok given)
unfolding admits kids
called = ok sharing 1 0 (fun 4 (var 3)) (omega arith) (refl, (λ e. omega arith, λ e. absurd (omega (arith, e)))) given
    (record { f = 4; p = var 0; r = right; ts = var 3; θ = var 3; numbered = refl; letters = (omega arith, (refl, tt, tt), (refl, tt, tt)); is = inl refl; bound = refl; matched = (refl, tt) }, refl, tt, refl)

pub called_marked : Says sharing 1 0 [] (marked 4 (var 3)) (Ok given)
unfolding admits kids
called_marked = ok sharing 1 0 (marked 4 (var 3)) (omega arith) (refl, (λ e. omega arith, λ e. absurd (omega (arith, e)))) given
    (record { f = 4; p = var 0; r = right; ts = var 3; θ = var 3; numbered = refl; letters = (omega arith, (refl, tt, tt), (refl, tt, tt)); is = inr refl; bound = refl; matched = (refl, tt) }, refl, tt, refl)

pub called_none : Says sharing 1 1 [] (fun 4 (var 3)) (Err 11)
called_none = inr (inl (refl, omega arith, λ a. let k = a.1.0 refl in omega (arith, k)))

pub moved : Says none 2 1 [] (con 1 (var 3 & fun 3 none)) (Ok (let_in (fun 3 none) (con 1 (var 4 & var 0))))
unfolding admits kids
moved = ok none 2 1 (con 1 (var 3 & fun 3 none)) (omega arith) (refl, (λ e. absurd (omega (arith, e)), λ e. absurd (omega (arith, e)))) (let_in (fun 3 none) (con 1 (var 4 & var 0))) (
  record { h = cell 32 0 2 1; before = var 3; e = fun 3 none; after = none; head = (omega arith, omega arith); letters = ((refl, tt, tt), (refl, tt, tt), tt); number = refl; is = refl },
  inl refl,
  tt,
  refl,
)

pub dropped : Says none 4 0 [] (let_in (fun 3 none) (var 6)) (Ok (var 5))
unfolding admits kids
dropped = ok none 4 0 (let_in (fun 3 none) (var 6)) (omega arith) (apt none 4 (omega arith)) (var 5)
    (record { a = fun 3 none; e = var 6; letters = ((refl, tt, tt), (refl, tt, tt)); is = refl }, away, tt, refl)
  where
    away : In 0 (6 ∷ []) → ⊥
    away (inl e) = omega (arith, e)
    away (inr e) = e

abbrev body : Row
body = con 1 (var 0 & var 6)

pub flattened : Says none 5 0 [] (let_in (let_in (fun 3 none) (var 0)) body) (Ok (let_in (fun 3 none) (let_in (var 0) (con 1 (var 0 & var 7)))))
unfolding admits kids
flattened = ok none 5 0 (let_in (let_in (fun 3 none) (var 0)) body) (omega arith) (apt none 5 (omega arith)) (let_in (fun 3 none) (let_in (var 0) (con 1 (var 0 & var 7))))
    (record { a = fun 3 none; b = var 0; e = body; letters = ((refl, tt, tt), (refl, tt, tt), (refl, (refl, tt, (refl, tt, tt)), tt)); is = refl }, tt, tt, refl)

-- the pattern and the children that a call of the program's rule has
left_is : (t : Row) (l : Called sharing 0 t) → fun 4 (var 0) ≡ fun l.f l.p
left_is t l = (inj-& (fun 4 (var 0)) right (fun l.f l.p) l.r refl (ap under l.numbered)).0

pattern_is : (t : Row) (l : Called sharing 0 t) → var 0 ≡ l.p
pattern_is t l = ap under (left_is t l)

children_are : (ts : Row) (l : Called sharing 0 (fun 4 ts)) → ts ≡ l.ts
children_are ts l = ⊎_elim (λ e. ap under e) (λ e. ap under e) l.is

matches : (ts : Row) (l : Called sharing 0 (fun 4 ts)) → Match l.θ (var 0) ts
matches ts l = subst₂ (λ p u. Match l.θ p u) (sym (pattern_is (fun 4 ts) l)) (sym (children_are ts l)) l.matched

fits : Apt sharing 1 0 []
fits = (refl, (λ e. omega arith, λ e. absurd (omega (arith, e))))

pub called_heavy : Says sharing 1 0 [] (fun 4 (fun 3 none)) (Err 13)
unfolding admits kids
called_heavy = no13 sharing 1 0 (fun 4 (fun 3 none)) (omega arith) fits (
  record { f = 4; p = var 0; r = right; ts = fun 3 none; θ = fun 3 none; numbered = refl; letters = (omega arith, (refl, tt, tt), (refl, tt, tt)); is = inl refl; bound = refl; matched = (refl, tt) },
  λ l h.
      let m = matches (fun 3 none) l in
      let w : width l.θ ≡ 1 = l.bound ∙ ap (λ u. length (fvs u)) (sym (left_is (fun 4 (fun 3 none)) l)) in
      false≢true (sym (ap light (sym (single l.θ w) ∙ m.0)) ∙ h),
)

pub called_other : Says sharing 1 0 [] (fun 4 (con 2 none & con 2 none)) (Err 12)
called_other = no12 sharing 1 0 (fun 4 (con 2 none & con 2 none)) (omega arith) fits (λ l. (matches (con 2 none & con 2 none) l).1)

two_apt : (argument : ℕ) → Apt none 2 argument []
two_apt argument = (refl, (λ e. absurd (omega (arith, e)), λ e. absurd (omega (arith, e))))

pub moved_light : Says none 2 0 [] (con 1 (var 3 & fun 3 none)) (Err 13)
unfolding admits kids
moved_light = no13 none 2 0 (con 1 (var 3 & fun 3 none)) (omega arith) (two_apt 0) (
  record { h = cell 32 0 2 1; before = none; e = var 3; after = fun 3 none; head = (omega arith, omega arith); letters = (tt, (refl, tt, tt), (refl, tt, tt)); number = refl; is = refl },
  λ l h.
      let b = empty l.before l.number in
      let k = inj-& none (var 3 & fun 3 none) l.before (l.e & l.after) (sym l.number) (ap under l.is) in
      let q = inj-& (var 3) (fun 3 none) l.e l.after (sym (lawful_width admits kids (term ∷ []) l.e l.letters.1)) k.1 in
      let z = ap kind_of q.0 in
      ⊎_elim (λ e. omega (arith, e, z)) (λ e. omega (arith, e, z)) h,
)

pub moved_none : Says none 2 2 [] (con 1 (var 3 & fun 3 none)) (Err 12)
moved_none = no12 none 2 2 (con 1 (var 3 & fun 3 none)) (omega arith) (two_apt 2)
    (λ l.
    let w = ap (λ t. width (under t)) l.is in
    omega (arith, w, width-& l.before (l.e & l.after), width-& l.e l.after, l.number, lawful_width admits kids (term ∷ []) l.e l.letters.1))

pub examples : Examples
examples = record {
  heavy = heavy;
  doubled = doubled;
  lowered = lowered;
  program = program;
  called = called;
  called_marked = called_marked;
  called_heavy = called_heavy;
  called_other = called_other;
  called_none = called_none;
  moved = moved;
  moved_light = moved_light;
  moved_none = moved_none;
  dropped = dropped;
  flattened = flattened;
}
