-- A cell is the number of its fields. Assumes nothing.
use Rattle.std.proofs.Common.{◌≡◌, ℕ, ◌+◌, ◌*◌, ◌/◌, ◌%◌, ◌^◌, ◌<◌, ◌≤◌, arith}
use native.Mathlib.Nat.{div-div-eq-div-mul}
use Rattle.terms.specs.Cells.{kind, binder, children, zeros, payload, cell}

pub cell_is : (c : ℕ) → c ≡ kind c * 2 ^ 58 + binder c * 2 ^ 57 + children c * 2 ^ 48 + zeros c * 2 ^ 32 + payload c
cell_is c =
    let one = first (c / 2 ^ 57) (kind c) (div-div-eq-div-mul c (2 ^ 57) 2) in
    let two = second (c / 2 ^ 48) (c / 2 ^ 57) (div-div-eq-div-mul c (2 ^ 48) (2 ^ 9)) in
    let three = third (c / 2 ^ 32) (c / 2 ^ 48) (div-div-eq-div-mul c (2 ^ 32) (2 ^ 16)) in
    let four = fourth c in
    sum (kind c) (binder c) (c / 2 ^ 57) (children c) (c / 2 ^ 48) (zeros c) (c / 2 ^ 32) (payload c) c one two three four
  where
    first : (q k : ℕ) → q / 2 ≡ k → q ≡ k * 2 + q % 2
    first q k e = omega (arith, e)

    second : (q k : ℕ) → q / 2 ^ 9 ≡ k → q ≡ k * 2 ^ 9 + q % 2 ^ 9
    second q k e = omega (arith, e)

    third : (q k : ℕ) → q / 2 ^ 16 ≡ k → q ≡ k * 2 ^ 16 + q % 2 ^ 16
    third q k e = omega (arith, e)

    fourth : (c : ℕ) → c ≡ c / 2 ^ 32 * 2 ^ 32 + c % 2 ^ 32
    fourth c = omega arith

    sum : (k b p n q z s y c : ℕ) → p ≡ k * 2 + b → q ≡ p * 2 ^ 9 + n → s ≡ q * 2 ^ 16 + z → c ≡ s * 2 ^ 32 + y → c ≡ k * 2 ^ 58 + b * 2 ^ 57 + n * 2 ^ 48 + z * 2 ^ 32 + y
    sum k b p n q z s y c e f g h = omega (arith, e, f, g, h)

-- the fields of a symbol's cell
pub symbol_cell : (c : ℕ) → binder c ≡ 0 → zeros c ≡ 0 → c ≡ cell (kind c) 0 (children c) (payload c)
symbol_cell c b z = omega (arith, cell_is c, b, z)

pub symbol_fields : (k w f : ℕ) → w ≤ 255 → f < 1024 → (kind (cell k 0 w f) ≡ k) × (children (cell k 0 w f) ≡ w) × (payload (cell k 0 w f) ≡ f)
symbol_fields k w f h l = (omega arith, narrow, omega arith)
  where
    narrow : children (cell k 0 w f) ≡ w
    narrow =
        let q : cell k 0 w f / 2 ^ 48 ≡ k * 2 ^ 10 + w = omega arith in
        omega (arith, q)
