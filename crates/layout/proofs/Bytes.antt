-- The laws of `put`, `part`, `on_block` and `zeros`: what is written is read back, and what lies apart stays.
use Rattle.std.proofs.Common.{◌≡◌, ℕ, zero, suc, ◌+◌, ◌-◌, ◌<◌, ◌≤◌, Bool, true, ◌&&◌, eqb, ◌⊎◌, List, [], ◌∷◌, ◌++◌, length, take, drop, set, replicate, sym, refl, ap, ◌∙◌, inl, inr, append_assoc, add-zero, zero-add, arith, length-drop, length-set, take-append-drop, length-take, get_or-drop, get_or-set_other, get_or-take, get_or-set_same, drop-drop, take_at, ext_get_or, take-add, drop-cons, eq-eqb, eqb-true}
use native.Mathlib.Decide.{dec_lt}
use lib.ListN.{length-replicate, get_or-replicate, get_or-eq_default}
use lib.Seq.{set_comm, drop-append-add, take-length, sets, sets-eq}
use Rattle.std.specs.List.{list_all}
use Rattle.laws.specs.Walk.{over}
use Rattle.laws.specs.Every.{every}
use Rattle.laws.proofs.Every.{every-at, every_of}
use Rattle.layout.specs.Bytes.{byte_at, part, put, on_block, zeros, AreBytes}

-- ---- put

pub put-none : (s : List ℕ) (at : ℕ) → put s at [] ≡ s
unfolding put
put-none s at = refl

pub put-cons : (s : List ℕ) (at b : ℕ) (bs : List ℕ) → put s at (b ∷ bs) ≡ put (set s at b) (suc at) bs
unfolding put
put-cons s at b bs = refl

pub put_byte : (s : List ℕ) (at b : ℕ) → put s at (b ∷ []) ≡ set s at b
unfolding put
put_byte s at b = refl

pub length-put : (s : List ℕ) (at : ℕ) (bs : List ℕ) → length (put s at bs) ≡ length s
unfolding put
length-put s at [] = refl
length-put s at (b ∷ bs) = length-put (set s at b) (suc at) bs ∙ length-set s at b

-- two writes, the second where the first ends, are one
pub put-put : (s : List ℕ) (at : ℕ) (bs cs : List ℕ) → put (put s at bs) (at + length bs) cs ≡ put s at (bs ++ cs)
unfolding put
put-put s at [] cs = rw add-zero
put-put s at (b ∷ bs) cs =
    let e : at + suc (length bs) ≡ suc at + length bs = omega arith in
    rw e (put-put (set s at b) (suc at) bs cs)

-- the same for the lists that two calls in a row leave: t is s with bs from a place on, and u is t with cs right behind
pub then : (s : List ℕ) (at : ℕ) (bs cs : List ℕ) {t u : List ℕ} {next : ℕ} → t ≡ put s at bs → u ≡ put t next cs → next ≡ at + length bs → u ≡ put s at (bs ++ cs)
then s at bs cs et eu en = eu ∙ rw (et, en) (put-put s at bs cs)

-- a byte behind, written before or after
set-behind : (s : List ℕ) (at : ℕ) (bs : List ℕ) (k b : ℕ) → at + length bs ≤ k → put (set s k b) at bs ≡ set (put s at bs) k b
unfolding put
set-behind s at [] k b h = refl
set-behind s at (x ∷ bs) k b h =
    ap (λ (t : List ℕ). put t (suc at) bs) (set_comm s k at b x (λ e. omega (arith, e, h)))
    ∙ set-behind (set s at x) (suc at) bs k b (omega (arith, h))

-- the last byte may be written first
pub last-first : (s : List ℕ) (at : ℕ) (bs : List ℕ) (b : ℕ) → put s at (bs ++ (b ∷ [])) ≡ put (set s (at + length bs) b) at bs
last-first s at bs b =
    sym (put-put s at bs (b ∷ []))
    ∙ put_byte (put s at bs) (at + length bs) b
    ∙ sym (set-behind s at bs (at + length bs) b (omega arith))

is-sets : (s : List ℕ) (at : ℕ) (bs : List ℕ) → put s at bs ≡ sets s at bs
unfolding put
is-sets s at [] = refl
is-sets s at (b ∷ bs) = is-sets (set s at b) (suc at) bs

-- what stands before, what is written, what stands behind
pub put-split : (s : List ℕ) (at : ℕ) (bs : List ℕ) → at + length bs ≤ length s → put s at bs ≡ take at s ++ (bs ++ drop (at + length bs) s)
put-split s at bs h = is-sets s at bs ∙ sets-eq bs s at h ∙ append_assoc (take at s) bs (drop (at + length bs) s)

-- at the start: the bytes, and what lies past them
pub put_front : (s bs : List ℕ) → length bs ≤ length s → put s 0 bs ≡ bs ++ drop (length bs) s
put_front s bs h = put-split s 0 bs (omega arith) ∙ rw zero-add

-- what a call leaves that was lent the n bytes from a place on
pub put-lent : (s : List ℕ) (at n : ℕ) (bs : List ℕ) → at + n ≤ length s → length bs ≡ n → take at s ++ (bs ++ drop n (drop at s)) ≡ put s at bs
put-lent s at n bs h e =
    let l : at + length bs ≤ length s = omega arith in
    rw (drop-drop n at s, ← e) (sym (put-split s at bs l))

-- ---- bytes of what was written

-- a byte apart from what was written is as it was
pub byte-apart : (s : List ℕ) (at : ℕ) (bs : List ℕ) (k : ℕ) → (k < at) ⊎ (at + length bs ≤ k) → byte_at (put s at bs) k ≡ byte_at s k
unfolding put
byte-apart s at [] k h = refl
byte-apart s at (b ∷ bs) k (inl h) =
    byte-apart (set s at b) (suc at) bs k (inl (omega arith)) ∙ get_or-set_other s at k b 0 (λ e. omega arith)
byte-apart s at (b ∷ bs) k (inr h) =
    byte-apart (set s at b) (suc at) bs k (inr (omega arith)) ∙ get_or-set_other s at k b 0 (λ e. omega arith)

-- a byte that was written is read back
pub byte_put : (s : List ℕ) (at : ℕ) (bs : List ℕ) (k : ℕ) → at + length bs ≤ length s → k < length bs → byte_at (put s at bs) (at + k) ≡ byte_at bs k
unfolding put
byte_put s at [] k h l = absurd (omega arith)
byte_put s at (b ∷ bs) zero h l =
    let w : at < length s = omega arith in
    rw add-zero (byte-apart (set s at b) (suc at) bs at (inl (omega arith)) ∙ get_or-set_same s at b 0 w)
byte_put s at (b ∷ bs) (suc k) h l =
    let e : at + suc k ≡ suc at + k = omega arith in
    let w : suc at + length bs ≤ length (set s at b) = rw length-set (omega arith) in
    rw e (byte_put (set s at b) (suc at) bs k w (omega arith))

pub bytes-zeros : (n : ℕ) → AreBytes (replicate n 0)
bytes-zeros zero k = omega arith
bytes-zeros (suc n) zero = omega arith
bytes-zeros (suc n) (suc k) = bytes-zeros n k

pub bytes-set : (s : List ℕ) (at b : ℕ) → AreBytes s → b < 256 → AreBytes (set s at b)
bytes-set [] at b h l k = h k
bytes-set (x ∷ s) zero b h l zero = l
bytes-set (x ∷ s) zero b h l (suc k) = h (suc k)
bytes-set (x ∷ s) (suc at) b h l zero = h 0
bytes-set (x ∷ s) (suc at) b h l (suc k) = bytes-set s at b (λ j. h (suc j)) l k

pub bytes-put : (s : List ℕ) (at : ℕ) (bs : List ℕ) → AreBytes s → AreBytes bs → AreBytes (put s at bs)
unfolding put
bytes-put s at [] hs hb = hs
bytes-put s at (b ∷ bs) hs hb = bytes-put (set s at b) (suc at) bs (bytes-set s at b hs (hb 0)) (λ k. hb (suc k))

-- ---- parts

pub length_part : (s : List ℕ) (at n : ℕ) → at + n ≤ length s → length (part s at n) ≡ n
length_part s at n h = simp (length-take, length-drop) (omega arith)

pub byte-part : (s : List ℕ) (at n k : ℕ) → k < n → byte_at (part s at n) k ≡ byte_at s (at + k)
byte-part s at n k h = get_or-take n (drop at s) k 0 h ∙ get_or-drop at s k 0

pub bytes-part : (s : List ℕ) (at n : ℕ) → AreBytes s → AreBytes (part s at n)
bytes-part s at n bytes k = go (dec_lt k n)
  where
    go : Dec (k < n) → byte_at (part s at n) k < 256
    go (yes l) = rw (byte-part s at n k l) (bytes (at + k))
    go (no l) =
        let m : length (part s at n) ≤ k = simp length-take (omega arith) in
        rw (get_or-eq_default (part s at n) 0 m) (omega arith)

-- two parts with the same bytes are the same
pub part_same : (s : List ℕ) (at : ℕ) (t : List ℕ) (place n : ℕ) → at + n ≤ length s → place + n ≤ length t
    → ((k : ℕ) → k < n → byte_at s (at + k) ≡ byte_at t (place + k)) → part s at n ≡ part t place n
part_same s at t place n h l same =
    let m = length_part s at n h in
    ext_get_or 0 (part s at n) (part t place n) (m ∙ sym (length_part t place n l))
    (λ k b. let c : k < n = omega arith in byte-part s at n k c ∙ same k c ∙ sym (byte-part t place n k c))

-- and those of two lists of one length, from a place on
pub part-kept : (s t : List ℕ) (at n : ℕ) → length s ≡ length t → ((k : ℕ) → at ≤ k → k < at + n → byte_at s k ≡ byte_at t k) → part s at n ≡ part t at n
part-kept s t at n long same =
    let m = length-take n (drop at s) in
    ext_get_or 0 (part s at n) (part t at n) (simp (length-take, length-drop) (rw long))
    (λ k l. byte-part s at n k (omega arith) ∙ same (at + k) (omega arith) (omega arith) ∙ sym (byte-part t at n k (omega arith)))

pub drop-kept : (s t : List ℕ) (n : ℕ) → length s ≡ length t → ((k : ℕ) → n ≤ k → byte_at s k ≡ byte_at t k) → drop n s ≡ drop n t
drop-kept s t n long same =
    ext_get_or 0 (drop n s) (drop n t) (simp length-drop (rw long)) (λ k l. get_or-drop n s k 0 ∙ same (n + k) (omega arith) ∙ sym (get_or-drop n t k 0))

pub part-all : (s : List ℕ) → part s 0 (length s) ≡ s
part-all s = take-length s

pub part-part : (s : List ℕ) (at n k m : ℕ) → at + n ≤ length s → k + m ≤ n → part (part s at n) k m ≡ part s (at + k) m
part-part s at n k m h l =
    part_same (part s at n) k s (at + k) m (rw (length_part s at n h) l) (omega arith)
    (λ j b. byte-part s at n (k + j) (omega arith) ∙ ap (byte_at s) (omega arith))

-- two parts, one behind the other, are one
pub part-add : (s : List ℕ) (at m n : ℕ) → part s at (m + n) ≡ part s at m ++ part s (at + m) n
part-add s at m n = take-add m n (drop at s) ∙ rw (drop-drop m at s)

-- what was written is read back
pub part-put : (s : List ℕ) (at : ℕ) (bs : List ℕ) → at + length bs ≤ length s → part (put s at bs) at (length bs) ≡ bs
part-put s at bs h =
    part_same (put s at bs) at bs 0 (length bs) (rw length-put h) (omega arith) (λ k b. byte_put s at bs k h b ∙ ap (byte_at bs) (omega arith))
    ∙ part-all bs

-- a list written over one of its own length
pub put_whole : (s bs : List ℕ) → length bs ≡ length s → put s 0 bs ≡ bs
put_whole s bs h =
    let l : 0 + length bs ≤ length s = omega arith in
    let e : length (put s 0 bs) ≡ length bs = length-put s 0 bs ∙ sym h in
    sym (part-all (put s 0 bs)) ∙ rw e (part-put s 0 bs l)

-- a part apart from it is as it was
pub part_apart : (s : List ℕ) (at : ℕ) (bs : List ℕ) (k n : ℕ) → k + n ≤ length s → (k + n ≤ at) ⊎ (at + length bs ≤ k) → part (put s at bs) k n ≡ part s k n
part_apart s at bs k n h apart =
    part_same (put s at bs) k s k n (rw length-put h) h (λ j b. byte-apart s at bs (k + j) (side j b apart))
  where
    side : (j : ℕ) → j < n → (k + n ≤ at) ⊎ (at + length bs ≤ k) → (k + j < at) ⊎ (at + length bs ≤ k + j)
    side j b (inl l) = inl (omega arith)
    side j b (inr l) = inr (omega arith)

-- a part written where it stands changes nothing
pub put-part : (s : List ℕ) (at n : ℕ) → at + n ≤ length s → put s at (part s at n) ≡ s
put-part s at n h =
    let e = length_part s at n h in
    put-split s at (part s at n) (omega arith)
    ∙ rw (e, ← drop-drop n at s, take-append-drop n (drop at s)) (take-append-drop at s)

-- ---- two lists, one behind the other

pub bytes-cons : (b : ℕ) (s : List ℕ) → b < 256 → AreBytes s → AreBytes (b ∷ s)
bytes-cons b s small h zero = small
bytes-cons b s small h (suc k) = h k

pub bytes_drop : (n : ℕ) (s : List ℕ) → AreBytes s → AreBytes (drop n s)
bytes_drop n s h k = rw (get_or-drop n s k 0) (h (n + k))

pub bytes-append : (s t : List ℕ) → AreBytes s → AreBytes t → AreBytes (s ++ t)
bytes-append [] t hs ht k = ht k
bytes-append (x ∷ s) t hs ht zero = hs 0
bytes-append (x ∷ s) t hs ht (suc k) = bytes-append s t (λ j. hs (suc j)) ht k

pub part-behind : (xs s : List ℕ) (at n : ℕ) → part (xs ++ s) (length xs + at) n ≡ part s at n
part-behind xs s at n = ap (take n) (drop-append-add xs s at)

pub part-front : (xs s : List ℕ) (n : ℕ) → length xs ≡ n → part (xs ++ s) 0 n ≡ xs
part-front xs s n h = take_at xs s n h

-- ---- a block changed

module _ (f : List ℕ → List ℕ) (s : List ℕ) (at : ℕ) where
  -- what a call leaves that was lent the block and changed it so
  pub on_block-lent : at + 512 ≤ length s → length (f (part s at 512)) ≡ 512 → take at s ++ (f (part s at 512) ++ drop 512 (drop at s)) ≡ on_block f s at
  unfolding on_block
  on_block-lent h e = put-lent s at 512 (f (part s at 512)) h e

-- ---- zeros

-- a test of each element of a part is the test of each byte from the first on
list-every : (p : ℕ → Bool) (s : List ℕ) (at n : ℕ) → at + n ≤ length s → list_all p (part s at n) ≡ every (λ (k : ℕ). p (byte_at s k)) at n
unfolding every over
list-every p s at zero h = refl
list-every p s at (suc n) h =
    let l : at < length s = omega arith in
    rw (drop-cons s at 0) (ap (λ (rest : Bool). p (byte_at s at) && rest) (list-every p s (suc at) n (omega arith)))

pub zeros-all : (s : List ℕ) (from to : ℕ) → from ≤ to → to ≤ length s → list_all (λ (b : ℕ). eqb b 0) (part s from (to - from)) ≡ zeros s from to
unfolding zeros
zeros-all s from to h l = list-every (λ (b : ℕ). eqb b 0) s from (to - from) (omega arith)

pub zeros-at : (s : List ℕ) (from to : ℕ) → zeros s from to ≡ true → (k : ℕ) → from ≤ k → k < to → byte_at s k ≡ 0
unfolding zeros
zeros-at s from to h k l m = eqb-true (byte_at s k) 0 (every-at (λ (j : ℕ). eqb (byte_at s j) 0) from (to - from) h k l (omega arith))

pub zeros_of : (s : List ℕ) (from to : ℕ) → ((k : ℕ) → from ≤ k → k < to → byte_at s k ≡ 0) → zeros s from to ≡ true
unfolding zeros
zeros_of s from to h = every_of (λ (j : ℕ). eqb (byte_at s j) 0) from (to - from) (λ k l m. eq-eqb (byte_at s k) 0 (h k l (omega arith)))

pub zeros-part : (s : List ℕ) (at n : ℕ) → at + n ≤ length s → zeros s at (at + n) ≡ true → part s at n ≡ replicate n 0
zeros-part s at n h z =
    let m = length_part s at n h in
    ext_get_or 0 (part s at n) (replicate n 0) (m ∙ sym (length-replicate n 0))
    (λ k b.
    let c : k < n = omega arith in
    byte-part s at n k c ∙ zeros-at s at (at + n) z (at + k) (omega arith) (omega arith) ∙ sym (get_or-replicate n k 0 0 c))
