-- A piece at a place, and the pieces of a line one behind the other. Assumes nothing.
use Prim.Native.Nat.{ℕ, ◌+◌, ◌-◌, ◌*◌, ◌^◌, ◌<◌, ◌≤◌, min}
use mathlib.Core.Path.{◌≡◌, refl, sym, ap, subst, ◌∙◌}
use mathlib.Core.Bool.{Bool, true, false, ◌&&◌, and_assoc}
use mathlib.Core.List.{List}
use native.Mathlib.Omega.{arith}
use native.Mathlib.Nat.{mul-le-mul_left, pow-le-pow_right}
use borrow.Author.Tests.{ltb-true, ltb-false, leb-true, eqb-true}
use lib.ListN.{length, get_or, drop, get_or-eq_default}
use lib.Seq.{drop-drop, get_or-drop}
use lib.Dec.{eqb, ltb, leb}
use denote.Ref.{Bor}
use Rattle.std.specs.Prelude.{Some, None, Result, Ok, Err}
use Rattle.std.specs.Result.{result_ok}
use Rattle.std.proofs.lemmas.Option.{same_Some, none-some}
use Rattle.text.proofs.Digits.{below}
use Rattle.laws.proofs.Tests.{split, clash, and_left, and_right}
use Rattle.rulebook.specs.BusLog.{Piece, bytes_of, stands, behind, opening, seconds, micros, gap, name, identifier, pairs}
use Rattle.rulebook.specs.BusLog.{one_to_ten, six, three_or_eight, at_seconds, at_micros, at_gap, at_name, at_identifier}
use Rattle.rulebook.specs.BusLog.{lines_behind, spelt, time, interface, tells_bus_off, is_bus_off, has_bit, error_bit, bus_off_bit}
use Rattle.buslog.specs.Pieces.{piece_of}
use Rattle.buslog.specs.declared.pieces.Piece as declared
use Rattle.buslog.specs.declared.pieces.Piece.TheVariants.{Opening, Seconds, Micros, Gap, Name, Identifier, Pairs, ListedName}
use Rattle.buslog.specs.declared.lines.Stamp.{Stamp}
use Rattle.buslog.specs.declared.lines.Frame.{Frame}
use Rattle.buslog.specs.Inside.{part, Finds, Misses, ReadsPiece, Fits, Numbers, stamp_stands, StampAt, frame_stands, FrameAt, Says}
use Rattle.buslog.proofs.Runs.{run-front, none_left, length-part}

-- what is behind one byte more, or behind the end
pub drop-next : (text : List ℕ) (end : ℕ) → drop (min (end + 1) (length text)) text ≡ drop (end + 1) text
drop-next text end =
    split (ltb end (length text))
    (λ l. let q : min (end + 1) (length text) ≡ end + 1 = omega (arith, ltb-true end (length text) l) in rw q)
    (λ l. let q : min (end + 1) (length text) ≡ length text = omega (arith, ltb-false end (length text) l) in
    rw q (none_left text (length text) (omega arith) ∙ sym (none_left text (end + 1) (omega (arith, ltb-false end (length text) l)))))

-- where the bytes of a piece end: their part of the text, and what is behind them

module _ (p : Piece) (text : List ℕ) (at end : ℕ) (ends : end ≡ at + length (bytes_of p (drop at text))) where
  pub bytes-part : part text at end ≡ bytes_of p (drop at text)
  bytes-part = let q : end - at ≡ length (bytes_of p (drop at text)) = omega arith in rw q (run-front p.has (drop at text))

  pub bytes-behind : drop (end + 1) text ≡ behind p (drop at text)
  unfolding behind
  bytes-behind =
      let r : end + 1 ≡ at + (length (bytes_of p (drop at text)) + 1) = omega arith in
      rw r (sym (drop-drop (length (bytes_of p (drop at text)) + 1) at text))

  module _ (sized : Bool) (b last : ℕ) (s : sized ≡ p.size (end - at)) (y : b ≡ get_or text end 0) (l : last ≡ p.end) where
    told : sized && eqb b last ≡ stands p (drop at text)
    unfolding stands
    told =
        let k = length (bytes_of p (drop at text)) in
        let q : end - at ≡ k = omega arith in
        let place : get_or (drop at text) k 0 ≡ get_or text end 0 = get_or-drop at text k 0 ∙ rw ends in
        rw (s, y, l, q, place)

    pub no-piece : sized && eqb b last ≡ false → stands p (drop at text) ≡ false
    no-piece e = sym told ∙ e

    pub a-miss : sized && eqb b last ≡ false → end ≤ length text → Misses p text at end
    a-miss e within =
        record {
          stood = no-piece e;
          ends = ends;
          bytes = bytes-part;
          next = drop-next text end ∙ bytes-behind;
          from = omega arith;
          to = within;
          inside = omega arith;
        }

    -- no piece ends with the byte 0, which is read past the end
    pub a-piece : sized && eqb b last ≡ true → 0 < p.end → end ≤ length text → Finds p text at end
    a-piece e some within =
        let is : b ≡ last = eqb-true b last (and_right sized (eqb b last) e) in
        record {
          stood = sym told ∙ e;
          ends = ends;
          bytes = bytes-part;
          next = bytes-behind;
          from = omega arith;
          inside = below end (length text) (λ h. h) (λ h. absurd (omega (arith, is, y, l, get_or-eq_default text 0 {n = end} h)));
        }

-- each piece of the code ends with a byte that is not 0
pub ends-some : (p : declared.Piece) → 0 < (piece_of p).end
ends-some Opening = omega arith
ends-some Seconds = omega arith
ends-some Micros = omega arith
ends-some Gap = omega arith
ends-some Name = omega arith
ends-some Identifier = omega arith
ends-some Pairs = omega arith
ends-some ListedName = omega arith

-- what was read of a piece, where only a piece that stands is gone on from

pub found : (p : Piece) (text : List ℕ) (at end : ℕ) (r : Result ℕ ℕ) → ReadsPiece p text at r → Some end ≡ result_ok r → Finds p text at end
found p text at end (Ok e) f is = subst (λ (k : ℕ). Finds p text at k) (sym (same_Some end e is)) f
found p text at end (Err e) f is = absurd (none-some end (sym is))

pub missed : (p : Piece) (text : List ℕ) (at : ℕ) (r : Result ℕ ℕ) → ReadsPiece p text at r → None ≡ result_ok r → stands p (drop at text) ≡ false
missed p text at (Ok e) f is = absurd (none-some e is)
missed p text at (Err e) f is = f.stood

-- a piece found at a place behind which ys stand
pub record Over (p : Piece) (text : List ℕ) (at : ℕ) (ys : List ℕ) (end : ℕ) : Type 0 where
  pub stood : stands p ys ≡ true
  pub bytes : part text at end ≡ bytes_of p ys
  pub long : length (part text at end) ≡ length (bytes_of p ys)
  pub next : drop (end + 1) text ≡ behind p ys

pub over : (p : Piece) (text : List ℕ) (at : ℕ) (ys : List ℕ) (end : ℕ) → drop at text ≡ ys → Finds p text at end → Over p text at ys end
over p text at ys end e f =
    record {
      stood = rw e at f.stood;
      bytes = f.bytes ∙ ap (λ (xs : List ℕ). bytes_of p xs) e;
      long = ap length (f.bytes ∙ ap (λ (xs : List ℕ). bytes_of p xs) e);
      next = f.next ∙ ap (λ (xs : List ℕ). behind p xs) e;
    }

absurd-false : {A : Type 0} → false ≡ true → A
absurd-false t = clash t refl

-- no number of the pieces is too large for 64 bits

sized : (p : Piece) (ys : List ℕ) → stands p ys ≡ true → p.size (length (bytes_of p ys)) ≡ true
unfolding stands
sized p ys e = and_left (p.size (length (bytes_of p ys))) (eqb (get_or ys (length (bytes_of p ys)) 0) p.end) e

few : (base n most start : ℕ) → 1 ≤ base → n ≤ most → (start + 29) * base ^ n ≤ (start + 29) * base ^ most
few base n most start b h = mul-le-mul_left (start + 29) (pow-le-pow_right {n = base} b h)

one-to-ten : (n : ℕ) → one_to_ten n ≡ true → n ≤ 10
unfolding one_to_ten
one-to-ten n e = leb-true n 10 (and_right (leb 1 n) (leb n 10) e)

pub seconds-few : (ys : List ℕ) → stands seconds ys ≡ true → length (bytes_of seconds ys) ≤ 10
seconds-few ys e = one-to-ten (length (bytes_of seconds ys)) (sized seconds ys e)

pub micros-few : (ys : List ℕ) → stands micros ys ≡ true → length (bytes_of micros ys) ≡ 6
unfolding six
micros-few ys e = eqb-true (length (bytes_of micros ys)) 6 (sized micros ys e)

three-or-eight : (n : ℕ) → three_or_eight n ≡ true → n ≤ 8
unfolding three_or_eight
three-or-eight n e =
    split (eqb n 8) (λ f. omega (arith, eqb-true n 8 f))
    (λ f. split (eqb n 3) (λ g. omega (arith, eqb-true n 3 g)) (λ g. let z : false ≡ true = rw (g, f) at e in absurd-false z))

pub identifier-few : (ys : List ℕ) → stands identifier ys ≡ true → length (bytes_of identifier ys) ≤ 8
identifier-few ys e = three-or-eight (length (bytes_of identifier ys)) (sized identifier ys e)

-- the pieces of a stamp, one behind the other: the first that does not stand, or all of them

module _ (text : List ℕ) (at : ℕ) where
  abbrev line : List ℕ
  line = drop at text

  pub no-opening : stands opening line ≡ false → stamp_stands line ≡ false
  unfolding stamp_stands
  no-opening e = rw e

  module _ (a : ℕ) (fa : Finds opening text at a) where
    oa : Over opening text at line a
    oa = over opening text at line a refl fa

    pub no-seconds : stands seconds (drop (a + 1) text) ≡ false → stamp_stands line ≡ false
    unfolding stamp_stands
    no-seconds e = rw (oa.stood, rw oa.next at e)

    module _ (b : ℕ) (fb : Finds seconds text (a + 1) b) where
      ob : Over seconds text (a + 1) (at_seconds line) b
      ob = over seconds text (a + 1) (at_seconds line) b oa.next fb

      pub no-micros : stands micros (drop (b + 1) text) ≡ false → stamp_stands line ≡ false
      unfolding stamp_stands
      no-micros e = rw (oa.stood, ob.stood, rw ob.next at e)

      module _ (c : ℕ) (fc : Finds micros text (b + 1) c) where
        oc : Over micros text (b + 1) (at_micros line) c
        oc = over micros text (b + 1) (at_micros line) c ob.next fc

        pub no-gap : stands gap (drop (c + 1) text) ≡ false → stamp_stands line ≡ false
        unfolding stamp_stands
        no-gap e = rw (oa.stood, ob.stood, oc.stood, rw oc.next at e)

        seconds-small : (0 + 29) * 10 ^ length (part text (a + 1) b) ≤ (0 + 29) * 10 ^ 10
        seconds-small = few 10 (length (part text (a + 1) b)) 10 0 (omega arith) (omega (arith, ob.long, seconds-few (at_seconds line) ob.stood))

        pub seconds-fit : Fits (part text (a + 1) b) 10 0
        seconds-fit = record { many = omega arith; small = omega (arith, seconds-small) }

        module _ (whole : ℕ) (w : Numbers (part text (a + 1) b) 10 0 whole) where
          pub micros-fit : Fits (part text (b + 1) c) 10 whole
          micros-fit =
              let q : length (part text (b + 1) c) ≡ 6 = oc.long ∙ micros-few (at_micros line) oc.stood in
              record { many = omega arith; small = rw q (omega (arith, w.small, seconds-small)) }

          pub stamp : (d : ℕ) → Finds gap text (c + 1) d → (t : ℕ) → Numbers (part text (b + 1) c) 10 whole t
              → StampAt text line (record { time = t; next = d + 1 })
          unfolding stamp_stands time
          stamp d fd t n =
              let od : Over gap text (c + 1) (at_gap line) d = over gap text (c + 1) (at_gap line) d oc.next fd in
              record {
                stood = rw (oa.stood, ob.stood, oc.stood, od.stood);
                time = n.value ∙ rw (w.value, ob.bytes, oc.bytes);
                next = od.next;
                inside = omega (arith, fd.inside);
              }

-- the pieces of a frame

module _ (text : List ℕ) (at : ℕ) where
  abbrev frame_at : List ℕ
  frame_at = drop at text

  pub no-identifier : stands identifier frame_at ≡ false → frame_stands frame_at ≡ false
  unfolding frame_stands
  no-identifier e = rw e

  module _ (a : ℕ) (fa : Finds identifier text at a) where
    ia : Over identifier text at frame_at a
    ia = over identifier text at frame_at a refl fa

    pub no-pairs : stands pairs (drop (a + 1) text) ≡ false → frame_stands frame_at ≡ false
    unfolding frame_stands
    no-pairs e = rw (ia.stood, rw ia.next at e)

    identifier-small : (0 + 29) * 16 ^ length (part text at a) ≤ (0 + 29) * 16 ^ 8
    identifier-small = few 16 (length (part text at a)) 8 0 (omega arith) (omega (arith, ia.long, identifier-few frame_at ia.stood))

    pub identifier-fits : Fits (part text at a) 16 0
    identifier-fits = record { many = omega arith; small = omega (arith, identifier-small) }

    pub frame : (b : ℕ) → Finds pairs text (a + 1) b → (n : ℕ) (off : Bool) → Numbers (part text at a) 16 0 n
        → off ≡ eqb (a - at) 8 && has_bit error_bit n && has_bit bus_off_bit n → FrameAt text frame_at (record { bus_off = off; next = b + 1 })
    unfolding frame_stands tells_bus_off
    frame b fb n off w o =
        let ib : Over pairs text (a + 1) (behind identifier frame_at) b = over pairs text (a + 1) (behind identifier frame_at) b ia.next fb in
        let q : a - at ≡ length (bytes_of identifier frame_at) = sym (length-part text at a fa.inside) ∙ ia.long in
        record {
          stood = rw (ia.stood, ib.stood);
          told = o ∙ rw (q, w.value, ia.bytes);
          next = ib.next;
          inside = omega (arith, fb.inside);
        }

-- a whole line

module _ (text : List ℕ) (at : ℕ) where
  abbrev whole-line : List ℕ
  whole-line = drop at text

  spelt-parts : spelt whole-line ≡ stamp_stands whole-line && stands name (at_name whole-line) && frame_stands (at_identifier whole-line)
  unfolding spelt stamp_stands frame_stands
  spelt-parts = simp and_assoc

  pub no-stamp : stamp_stands whole-line ≡ false → spelt whole-line ≡ false
  no-stamp e = spelt-parts ∙ rw e

  module _ (s : Stamp) (fs : StampAt text whole-line s) where
    pub no-name : stands name (drop s.next text) ≡ false → spelt whole-line ≡ false
    no-name e = spelt-parts ∙ rw (fs.stood, rw fs.next at e)

    module _ (n : ℕ) (fn : Finds name text s.next n) where
      on : Over name text s.next (at_name whole-line) n
      on = over name text s.next (at_name whole-line) n fs.next fn

      pub no-frame : frame_stands (drop (n + 1) text) ≡ false → spelt whole-line ≡ false
      no-frame e = spelt-parts ∙ rw (fs.stood, on.stood, rw on.next at e)

      pub says : (f : Frame) → FrameAt text (drop (n + 1) text) f → (called : Bor (List ℕ)) → called.now ≡ part text s.next n
          → Says text whole-line (record { time = s.time; name = called; bus_off = f.bus_off; next = f.next })
      unfolding interface is_bus_off lines_behind
      says f ff called c =
          record {
            spelt = spelt-parts ∙ rw (fs.stood, on.stood, rw on.next at ff.stood);
            time = fs.time;
            name = c ∙ on.bytes;
            told = ff.told ∙ rw on.next;
            next = ff.next ∙ rw on.next;
            inside = ff.inside;
          }
