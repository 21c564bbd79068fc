-- What our program prints for an event is read back as it was printed. Assumes nothing.
use Prim.Native.Nat.{ℕ, zero, suc, ◌+◌, ◌*◌, ◌/◌, ◌%◌, ◌^◌, ◌<◌, ◌≤◌}
use mathlib.Core.Path.{◌≡◌, refl, sym, ap, ◌∙◌}
use mathlib.Core.Bool.{true, false}
use mathlib.Core.List.{List, [], ◌∷◌, ◌++◌, append_assoc}
use native.Mathlib.Nat.{add-zero, pow-suc, mod-lt, div-lt_iff_lt-mul, div-add-mod'}
use native.Mathlib.Omega.{arith}
use lib.ListN.{length, length-append}
use lib.Seq.{get_or_at, get_or-append-add, append_snoc}
use borrow.Author.Tests.{lt-ltb, le-ltb, eq-eqb, eqb-true}
use Rattle.text.specs.Lines.{hex_digit, digits, decimal_line, hex_line, hex_lines}
use Rattle.text.proofs.Digits.{below, length_digits, length-hex, length-hexes}
use Rattle.text.proofs.Decimal.{decimal-one}
use Rattle.session.specs.Printed.{lines}
use Rattle.recording.specs.Log.{Recording, byte, within, hex_value, hex_digits, hex_number, is_answer, is_word, word_count, words_from}
use Rattle.recording.specs.Log.{found_behind, recording_of, recording_at}
use Rattle.recording.specs.Own.{Words, Behind, nothing, another, ReadsOwn, ReadsLines}
use Rattle.recording.proofs.Spelling.{both, second-of, not_first, is_within, value-digit, value-letter, value_low, digits_more, number_more, spoilt}
use Rattle.recording.proofs.Spelling.{word-inside, answer-inside}
use Rattle.recording.proofs.Words.{split, count-one, count-end}
use Rattle.recording.proofs.Placed.{behind-last, behind-whole, at-answer}

-- a digit's value
value_of : (d : ℕ) → d < 16 → hex_value (hex_digit d) ≡ d
unfolding hex_digit
value_of d h =
    below d 10 (λ b. rw (lt-ltb d 10 b) (value-digit (48 + d) (omega arith) (omega arith) ∙ omega arith))
    (λ b. rw (le-ltb d 10 b) (value-letter (55 + d) (omega arith) (omega arith) ∙ omega arith))

-- the digits of a number, one more at the back, in front of a tail
snoc : (pre xs : List ℕ) (x : ℕ) (tail : List ℕ) → pre ++ (xs ++ x ∷ [] ++ tail) ≡ pre ++ (xs ++ x ∷ tail)
snoc pre xs x tail = rw (append_snoc xs x tail)

-- k digits of n behind `pre` are digits, and spell n
record Spells (k : ℕ) (bytes : List ℕ) (at n : ℕ) : Type 0 where
  all : hex_digits k bytes at ≡ true
  number : hex_number k bytes at ≡ n

spells-more : {k : ℕ} {bytes : List ℕ} {at n : ℕ} (d : ℕ) → Spells k bytes at n → d < 16 → byte bytes (at + k) ≡ hex_digit d
    → Spells (suc k) bytes at (n * 16 + d)
spells-more {k} {bytes} {at} {n} d s h e =
    let v : hex_value (byte bytes (at + k)) ≡ d = ap hex_value e ∙ value_of d h in
    record {
      all = digits_more bytes at k s.all (omega arith);
      number = rw (number_more bytes at k, s.number, v);
    }

digits-spell : (k n : ℕ) (pre tail : List ℕ) → n < 16 ^ k → Spells k (pre ++ (digits 16 k n ++ tail)) (length pre) n
unfolding digits hex_digits hex_number
digits-spell zero n pre tail h = record { all = refl; number = omega arith }
digits-spell (suc k) n pre tail h =
    let front = digits 16 k (n / 16) in
    let d = n % 16 in
    let some : 0 < 16 = omega arith in
    let small : n / 16 < 16 ^ k = (div-lt_iff_lt-mul some).1 (rw pow-suc at h) in
    let s = digits-spell k (n / 16) pre (hex_digit d ∷ tail) small in
    let long : length (pre ++ front) ≡ length pre + k = length-append pre front ∙ ap (λ (l : ℕ). length pre + l) (length_digits 16 k (n / 16)) in
    let here = get_or_at (pre ++ front) (hex_digit d) tail 0 (length pre + k) long in
    let more = spells-more d s (mod-lt n some) (rw append_assoc at here) in
    rw (snoc pre front (hex_digit d) tail) (rw (div-add-mod' n 16) at more)

-- a word's line is a word

record WordAt (bytes : List ℕ) (at w : ℕ) : Type 0 where
  is : is_word bytes at ≡ true
  number : hex_number 8 bytes at ≡ w

one-word : (w : ℕ) (pre tail : List ℕ) → w < 2 ^ 32 → WordAt (pre ++ (hex_line w ++ tail)) (length pre) w
unfolding is_word hex_line
one-word w pre tail h =
    let front = digits 16 8 w in
    let s = digits-spell 8 w pre (10 ∷ tail) h in
    let long : length (pre ++ front) ≡ length pre + 8 = length-append pre front ∙ ap (λ (l : ℕ). length pre + l) (length_digits 16 8 w) in
    let end = rw append_assoc at (get_or_at (pre ++ front) 10 tail 0 (length pre + 8) long) in
    let bytes = pre ++ (front ++ 10 ∷ tail) in
    rw (snoc pre front 10 tail)
    (record { is = both (hex_digits 8 bytes (length pre)) _ s.all (eq-eqb (byte bytes (length pre + 8)) 10 end); number = s.number })

regroup : (a b c d : List ℕ) → a ++ (b ++ c ++ d) ≡ a ++ b ++ (c ++ d)
regroup a b c d = simp append_assoc

-- words' lines are those words, where no word's line stands behind them
words-read : (ws pre rest bytes : List ℕ) (at most : ℕ) → Words ws → length ws ≤ most → bytes ≡ pre ++ (hex_lines ws ++ rest) → at ≡ length pre
    → is_word bytes (at + 9 * length ws) ≡ false
    → (word_count most bytes at ≡ length ws) × (words_from (length ws) bytes at ≡ ws)
unfolding words_from hex_lines
words-read [] pre rest bytes at most small room e p end =
    let here : at + 9 * 0 ≡ at = omega arith in
    (count-end bytes most at (rw here at end), refl)
words-read (w ∷ ws) pre rest bytes at zero small room e p end = absurd (omega arith)
words-read (w ∷ ws) pre rest bytes at (suc most) small room e p end =
    let back = e ∙ regroup pre (hex_line w) (hex_lines ws) rest in
    let this : WordAt bytes at w = rw (e, p, append_assoc) (one-word w pre (hex_lines ws ++ rest) (small 0)) in
    let next : at + 9 ≡ length (pre ++ hex_line w) = omega (arith, length-append pre (hex_line w), length-hex w) in
    let last : at + 9 + 9 * length ws ≡ at + 9 * suc (length ws) = omega arith in
    let more = words-read ws (pre ++ hex_line w) rest bytes (at + 9) most (λ i. small (suc i)) (omega arith) back next (rw last end) in
    (count-one bytes most at this.is ∙ ap suc more.0, rw (this.number, more.1))

-- an answer's line

answer-line : (a : ℕ) → a < 10 → decimal_line a ≡ (48 + a) ∷ 10 ∷ []
answer-line a h = rw (decimal-one a h)

first_byte : (before : List ℕ) (x : ℕ) (tail : List ℕ) → byte (before ++ x ∷ tail) (length before) ≡ x
first_byte before x tail = get_or_at before x tail 0 (length before) refl

answer_at : (a : ℕ) (before tail : List ℕ) → a < 10 → is_answer (before ++ (48 + a) ∷ 10 ∷ tail) (length before) ≡ true
unfolding is_answer
answer_at a before tail h =
    let x = 48 + a in
    let bytes = before ++ x ∷ 10 ∷ tail in
    let one = first_byte before x (10 ∷ tail) in
    let two : byte bytes (length before + 1) ≡ 10 = get_or-append-add before (x ∷ 10 ∷ tail) 1 0 in
    both (within 48 57 (byte bytes (length before))) _ (rw one (is_within 48 57 x (omega arith) (omega arith))) (eq-eqb (byte bytes (length before + 1)) 10 two)

-- what stands behind: no word's line, and what is found by it

shifted : (p rest : List ℕ) → is_answer rest 0 ≡ true → is_answer (p ++ rest) (length p) ≡ true
unfolding is_answer
shifted p rest e =
    let one : byte (p ++ rest) (length p) ≡ byte rest 0 = rw add-zero at (get_or-append-add p rest 0 0) in
    rw (one, get_or-append-add p rest 1 0) e

no_word : (bytes : List ℕ) (at : ℕ) → is_answer bytes at ≡ true → is_word bytes at ≡ false
unfolding is_answer is_word
no_word bytes at e =
    let q = eqb-true (byte bytes (at + 1)) 10 (second-of (within 48 57 (byte bytes at)) _ e) in
    not_first (hex_digits 8 bytes at) _ (spoilt bytes at 1 (omega arith) (omega (arith, value_low (byte bytes (at + 1)) (omega arith))))

stands : (p rest : List ℕ) (found : ℕ) → Behind rest found → (is_word (p ++ rest) (length p) ≡ false) × (found_behind (p ++ rest) (length p) ≡ found)
stands p [] found nothing =
    let long = length-append p [] in (
      split (is_word (p ++ []) (length p)) (λ e. absurd (omega (arith, word-inside (p ++ []) (length p) e))) (λ e. e),
      behind-last (p ++ []) (length p) (omega arith),
    )
stands p rest found (another i) =
    let a = shifted p rest i in
    (no_word (p ++ rest) (length p) a, behind-whole (p ++ rest) (length p) (omega (arith, answer-inside (p ++ rest) (length p) a)) a)

same : {f f' a a' to to' : ℕ} {ws ws' : List ℕ} → f ≡ f' → a ≡ a' → ws ≡ ws' → to ≡ to'
    → ◌≡◌ {A = Recording} (record { found = f; answer = a; words = ws; next = to }) (record { found = f'; answer = a'; words = ws'; next = to' })
same p q r s = rw (p, q, r, s)

-- over any bytes that are those lines, grouped in three ways: behind the answer, its line, all of them
read_at : (most a : ℕ) (ws before rest bytes : List ℕ) (found : ℕ) → a < 10 → Words ws → length ws ≤ most → Behind rest found
    → bytes ≡ before ++ (48 + a) ∷ 10 ∷ (hex_lines ws ++ rest)
    → bytes ≡ before ++ (48 + a) ∷ 10 ∷ [] ++ (hex_lines ws ++ rest)
    → (lines : List ℕ) → length lines ≡ length before + 2 + 9 * length ws → bytes ≡ lines ++ rest
    → recording_at most bytes (length before) ≡ record { found = found; answer = a; words = ws; next = length lines }
unfolding recording_of
read_at most a ws before rest bytes found digit small room b e₁ e₂ lines long e₃ =
    let at = length before in
    let x = 48 + a in
    let answered : is_answer bytes at ≡ true = rw e₁ (answer_at a before (hex_lines ws ++ rest) digit) in
    let inside = answer-inside bytes at answered in
    let first : byte bytes at ≡ x = rw e₁ (first_byte before x (10 ∷ (hex_lines ws ++ rest))) in
    let s = stands lines rest found b in
    let end : is_word bytes (at + 2 + 9 * length ws) ≡ false = rw (← long, e₃) s.0 in
    let behind : found_behind bytes (at + 2 + 9 * length ws) ≡ found = rw (← long, e₃) s.1 in
    let place : at + 2 ≡ length (before ++ x ∷ 10 ∷ []) = sym (length-append before (x ∷ 10 ∷ [])) in
    let r = words-read ws (before ++ x ∷ 10 ∷ []) rest bytes (at + 2) most small room e₂ place end in
    at-answer most bytes at (omega arith) answered ∙ rw r.0 (same behind (omega arith) r.1 (sym long))

pub own : ReadsOwn
own most a ws before rest found digit small room b =
    let q = answer-line a digit in
    let all = length-append before (decimal_line a ++ hex_lines ws) in
    let two = length-append (decimal_line a) (hex_lines ws) in
    let lines = length-hexes ws in
    let line : length (decimal_line a) ≡ 2 = rw q in
    read_at most a ws before rest (before ++ (decimal_line a ++ hex_lines ws ++ rest)) found digit small room b (rw q) (rw q (simp append_assoc))
    (before ++ (decimal_line a ++ hex_lines ws)) (omega arith) (sym (append_assoc before (decimal_line a ++ hex_lines ws) rest))

-- state and trace words are words one behind the other

hexes-append : (xs ys : List ℕ) → hex_lines (xs ++ ys) ≡ hex_lines xs ++ hex_lines ys
unfolding hex_lines
hexes-append [] ys = refl
hexes-append (x ∷ xs) ys = rw (hexes-append xs ys) (sym (append_assoc (hex_line x) (hex_lines xs) (hex_lines ys)))

words_append : (xs ys : List ℕ) → Words xs → Words ys → Words (xs ++ ys)
words_append [] ys p q i = q i
words_append (x ∷ xs) ys p q zero = p 0
words_append (x ∷ xs) ys p q (suc i) = words_append xs ys (λ j. p (suc j)) q i

pub own-lines : ReadsLines
unfolding lines
own-lines most a state words before rest found digit ss ws room b =
    let e : decimal_line a ++ hex_lines (state ++ words) ≡ decimal_line a ++ hex_lines state ++ hex_lines words =
    rw (hexes-append state words) (sym (append_assoc (decimal_line a) (hex_lines state) (hex_lines words)))
    in
    rw (← e) (own most a (state ++ words) before rest found digit (words_append state words ss ws) room b)
