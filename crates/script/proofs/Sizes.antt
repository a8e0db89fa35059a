-- The sizes in a script's lines. Assumes nothing.
use Rattle.std.proofs.Common.{◌≡◌, ℕ, ◌⊎◌, ◌∷◌, ◌++◌, [], List, length, zero, suc, inl, inr, sym, refl, ap, subst, arith, length-append, Ok}
use Rattle.std.proofs.lemmas.List.{get_or_append_left}
use Rattle.std.proofs.lemmas.List.Elements.{All-append}
use Rattle.std.specs.List.{All}
use Rattle.script.specs.Words.{Words}
use Rattle.script.specs.Line.{ReadsLine, TakesCells, with_end}
use Rattle.script.specs.Script.{IsSized, HasSizes, Continues}
use Rattle.script.specs.declared.line.Line.{Line}
use Rattle.script.specs.declared.line.Line.TheVariants.{Memory, Open, Step, Settle, Withdraw, Tell, Table}
use Rattle.script.specs.declared.Script.{Script}

-- a line that is read has none over 4,096
pub sized : (words : Words) (cells cells_after entries entries_after : List ℕ) (line : Line) → ReadsLine words cells cells_after entries entries_after (Ok line) → IsSized line
sized words cells cells_after entries entries_after line r = elim r.others [
  | inl f ↦ let m = (r.memory f).1 in subst IsSized (sym m.1) (m.0.0.1, m.0.1.1, m.0.2.1)
  | inr f ↦ elim f [
    | inl f ↦ let m = r.opening f in subst IsSized (sym m.1.0) tt
    | inr f ↦ elim f [
      | inl f ↦ let m = r.step f in subst IsSized (sym m.1.0) tt
      | inr f ↦ elim f [
        | inl f ↦ let m = r.settle f in subst IsSized (sym m.1.0) tt
        | inr f ↦ elim f [
          | inl f ↦ let m = (r.withdraw f).1 in subst IsSized (sym m.1) tt
          | inr f ↦ elim f [
            | inl f ↦ let m : line ≡ Tell = cc (r.tell f).1 in subst IsSized (sym m) tt
            | inr f ↦ elim f [
              | inl f ↦ let m = (r.table f).1 in subst IsSized (sym m.1) m.0.1
              | inr f ↦ absurd (cc f)
            ]
          ]
        ]
      ]
    ]
  ]
]

-- no line has any
pub none_sized : (lines : List Line) → lines ≡ [] → All IsSized lines
none_sized lines e = subst (All IsSized) (sym e) (λ k d h. absurd (omega arith))

alone : (line : Line) → IsSized line → All IsSized (line ∷ [])
alone line p zero d h = p
alone line p (suc k) d h = absurd (omega arith)

-- a line more
pub one_sized : (lines more : List Line) (words : Words) (cells cells_after entries entries_after : List ℕ) (line : Line) → All IsSized lines → ReadsLine words cells cells_after entries entries_after (Ok line) → more ≡ lines ++ line ∷ [] → All IsSized more
one_sized lines more words cells cells_after entries entries_after line a r e = subst (All IsSized) (sym e) (All-append IsSized lines (line ∷ []) a (alone line (sized words cells cells_after entries entries_after line r)))

-- a line that takes cells has none
taker_sized : (line : Line) (end : ℕ) → TakesCells line → IsSized (with_end end line)
taker_sized (Open term) end t = tt
taker_sized (Settle ticket claim) end t = tt
taker_sized (Memory table scratch walk) end t = absurd t
taker_sized (Step rule argument place inner) end t = absurd t
taker_sized (Withdraw ticket) end t = absurd t
taker_sized Tell end t = absurd t
taker_sized (Table n) end t = absurd t

-- the lines before the last
front_sized : (front : List Line) (line : Line) → All IsSized (front ++ line ∷ []) → All IsSized front
front_sized front line a k d h =
    subst IsSized (get_or_append_left front (line ∷ []) d k h) (a k d (omega (arith, length-append front (line ∷ []))))

-- a list is empty, or has a last element
ends : {T : Type 0} (l : List T) → (l ≡ []) ⊎ ((front : List T) × (x : T) × (l ≡ front ++ x ∷ []))
ends [] = inl refl
ends (x ∷ xs) = elim (ends xs) [
  | inl e ↦ inr ([], x, ap (λ l. x ∷ l) e)
  | inr (front, y, e) ↦ inr (x ∷ front, y, ap (λ l. x ∷ l) e)
]

-- further words of the line that is last leave the sizes so
pub further_sized : (words : Words) (old new : Script) → Continues words old new (Ok tt) → HasSizes old → HasSizes new
further_sized words old new c h = elim (ends old.lines.items) [
  | inl e ↦ none_sized new.lines.items (c.program e).1.1
  | inr (front, line, e) ↦
      let m = c.last front line e in
      let f = front_sized front line (subst (All IsSized) e h) in
      subst (All IsSized) (sym m.1.1) (All-append IsSized front (with_end (length new.cells.items) line ∷ []) f (alone _ (taker_sized line (length new.cells.items) m.0.0)))
]
