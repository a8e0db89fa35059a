-- The judge's turns: what it has found before a cell, what it finds there, and the verdicts. Assumes nothing.
use Rattle.std.proofs.Common.{◌≡◌, ℕ, suc, ◌+◌, ◌^◌, ◌<◌, ◌≤◌, max, Bool, true, false, eqb, leb, List, [], ◌∷◌, length, get_or, take, Some, None, Option, sym, refl, ap, ◌∙◌, subst, add-one, arith, below_more}
use Rattle.std.proofs.lemmas.List.{take_all}
use Rattle.std.proofs.lemmas.Bool.Decides.{nat_tests}
use Rattle.layout.specs.declared.Walk.{Walk}
use Rattle.layout.specs.Open.{Holds, Follows, Good}
use Rattle.layout.proofs.Peaks.{step, walked_more, peak, long, peak_more, term_peak}
use Rattle.terms.specs.Cells.{kind, payload}
use Rattle.terms.specs.Lists.{All}
use Rattle.terms.specs.Rows.{flat}
use Rattle.terms.specs.Layout.{Parent, next, parents, binders, Wrong, fields, far, deep, many, Kept, Broken}
use Rattle.terms.proofs.Walks.{Sound, not_wrong, laid_right, IsNone}
use Rattle.terms.proofs.Builds.{right_laid, laid_ends}

-- what is found before the cell number i: no cell was wrong, the open cells are recorded, and how deep it went
pub record Reached (cells : List ℕ) (i : ℕ) (walk : List Walk) (height : Option ℕ) (deepest : ℕ) : Type 0 where
  pub few : i ≤ 2048
  pub right : (j : ℕ) → j < i → Wrong cells j → ⊥
  pub follows : Follows walk (parents cells i) height
  pub deep : deepest ≡ peak (Some []) (take i cells)

-- the cells above, where there is a cell to come
pub record Above (cells : List ℕ) (i : ℕ) (walk : List Walk) (height : ℕ) : Type 0 where
  pub up : List Parent
  pub is : parents cells i ≡ Some up
  pub high : height ≡ length up
  pub holds : Holds walk up

some_follows : (cells : List ℕ) (i : ℕ) (walk : List Walk) (height : ℕ) (u : Option (List Parent)) → parents cells i ≡ u → Follows walk u (Some height) → Above cells i walk height
some_follows cells i walk height None e f = absurd f
some_follows cells i walk height (Some up) e f = record { up = up; is = e; high = f.0; holds = f.1 }

none_follows : (walk : List Walk) (u : Option (List Parent)) → Follows walk u None → u ≡ None
none_follows walk None f = refl
none_follows walk (Some up) f = absurd f

pub above : (cells : List ℕ) (i : ℕ) (walk : List Walk) (o : Option ℕ) (height d : ℕ) → o ≡ Some height → Reached cells i walk o d → Above cells i walk height
above cells i walk o height d e s =
    some_follows cells i walk height (parents cells i) refl (subst (Follows walk (parents cells i)) e s.follows)

-- the term has ended
pub ended : (cells : List ℕ) (i : ℕ) (walk : List Walk) (o : Option ℕ) (d : ℕ) → o ≡ None → Reached cells i walk o d → parents cells i ≡ None
ended cells i walk o d e s = none_follows walk (parents cells i) (subst (Follows walk (parents cells i)) e s.follows)

-- a cell past the number of cells or the depth is wrong
pub no_room_wrong : (cells : List ℕ) (i height : ℕ) (up : List Parent) → i ≤ 2048 → parents cells i ≡ Some up → height ≡ length up → ((i < 2048) × (height < 256) → ⊥) → Wrong cells i
no_room_wrong cells i height up few e q h = go (leb 2048 i) refl
  where
    go : (b : Bool) → leb 2048 i ≡ b → Wrong cells i
    go true x = let l : 2048 ≤ i = grind (arith, nat_tests) in many (omega arith)
    go false x =
        let l : i < 2048 = grind (arith, nat_tests) in
        let k : (height < 256 → ⊥) = λ g. h (l, g) in
        deep up e (omega arith)

-- a cell that is not good is wrong
pub bad_wrong : (cells : List ℕ) (i : ℕ) (up : List Parent) (b : ℕ) → parents cells i ≡ Some up → b ≡ binders up → (Good (get_or cells i 0) b → ⊥) → Wrong cells i
bad_wrong cells i up b e q h = go (eqb (kind (get_or cells i 0)) 0) (leb (b + 1024) (payload (get_or cells i 0))) refl refl
  where
    go : (v l : Bool) → eqb (kind (get_or cells i 0)) 0 ≡ v → leb (b + 1024) (payload (get_or cells i 0)) ≡ l → Wrong cells i
    go true true x y = far up e (grind (arith, nat_tests)) (let k : b + 1024 ≤ payload (get_or cells i 0) = grind (arith, nat_tests) in omega arith)
    go true false x y = fields (λ f. h (record { fields = f; near = λ v. grind (arith, nat_tests) }))
    go false l x y = fields (λ f. h (record { fields = f; near = λ v. grind (arith, nat_tests) }))

-- a turn: the cell is right, and the walk goes on past it
pub reached_more : (cells : List ℕ) (i : ℕ) (walk after : List Walk) (o goes : Option ℕ) (height d b deepest : ℕ) → Reached cells i walk o d → (a : Above cells i walk height) → i < length cells → i < 2048 → height < 256 → b ≡ binders a.up → Good (get_or cells i 0) b → Follows after (next (get_or cells i 0) a.up) goes → deepest ≡ max d (height + 1) → Reached cells (i + 1) after goes deepest
reached_more cells i walk after o goes height d b deepest s a l few high binds good follows m =
    let sound : Sound a.up (get_or cells i 0) =
    record { fine = good.fields; high = omega (arith, a.high); near = λ v. omega (arith, good.near v) } in
    let n : parents cells (i + 1) ≡ next (get_or cells i 0) a.up =
    ap (λ k. parents cells k) (add-one i) ∙ walked_more (Some []) cells i l ∙ ap (step (get_or cells i 0)) a.is in
    let p : peak (Some []) (take (i + 1) cells) ≡ max (peak (Some []) (take i cells)) (suc (length a.up)) =
    ap (λ k. peak (Some []) (take k cells)) (add-one i) ∙ peak_more (Some []) cells i l ∙ ap (λ u. max (peak (Some []) (take i cells)) (long u)) a.is in
    record {
      few = omega arith;
      right = below_more _ _ s.right (not_wrong cells i a.up few a.is sound);
      follows = subst (λ u. Follows after u goes) (sym n) follows;
      deep = omega (arith, p, s.deep, a.high);
    }

-- the first wrong cell
pub broken_at : (cells : List ℕ) (i : ℕ) (walk : List Walk) (height : Option ℕ) (d : ℕ) → Reached cells i walk height d → i < length cells → Wrong cells i → Broken cells i
broken_at cells i walk height d s l w =
    record { within = omega arith; before = s.right; first = λ h. w; broken = λ lay. laid_right cells i lay l w }

-- the cells run out
pub runs_out : (cells : List ℕ) (i : ℕ) (walk : List Walk) (o : Option ℕ) (d : ℕ) (a : List Parent) → Reached cells i walk o d → parents cells i ≡ Some a → i ≡ length cells → Broken cells (length cells)
runs_out cells i walk o d a s q e =
    record {
      within = omega arith;
      before = λ j h. s.right j (omega arith);
      first = λ h. absurd (omega arith);
      broken = λ lay. subst IsNone (sym (laid_ends cells lay) ∙ ap (parents cells) (sym e) ∙ q) tt;
    }

-- the term ends with the cells
pub keeps : (cells : List ℕ) (i : ℕ) (walk : List Walk) (o : Option ℕ) (d : ℕ) → All (λ c. c < 2 ^ 64) cells → Reached cells i walk o d → parents cells i ≡ None → i ≡ length cells → Kept cells (length cells) d
keeps cells i walk o d small s q e =
    let lay = right_laid cells small (λ j h. s.right j (omega arith)) (ap (parents cells) (sym e) ∙ q) in
    let whole : take i cells ≡ flat lay.tree = take_all i cells (omega arith) ∙ sym lay.is.reads in
    record {
      layout = lay;
      count = refl;
      depth = record { tree = lay.tree; is = lay.is; deep = s.deep ∙ ap (peak (Some [])) whole ∙ term_peak lay.tree lay.is.one lay.is.counted };
    }

-- what holds at each place holds of each entry
pub all_at : (P : ℕ → Type 0) (xs : List ℕ) → ((i : ℕ) → i < length xs → P (get_or xs i 0)) → All P xs
all_at P [] h = tt
all_at P (x ∷ xs) h = (h 0 (omega arith), all_at P xs (λ i l. h (suc i) (omega arith)))
