-- What the walks of a body's fields answer.
use Rattle.std.proofs.Common.{◌≡◌, ℕ, zero, suc, ◌+◌, ◌-◌, ◌*◌, ◌<◌, ◌≤◌, Bool, true, false, ◌&&◌, List, [], ◌∷◌, ◌++◌, length, get_or, take, drop, slice_range, zip, sym, refl, ap, ◌∙◌, arith, length-append, length-drop, length-take, drop-drop}
use Rattle.std.specs.List.{list_all}
use Rattle.std.specs.Simd.{first_chunks}
use Rattle.std.specs.Slice.Iter.{chunks_exact_rest, chunks_exact_size, chunks_exact_steps}
use Rattle.std.specs.declared.slice.ChunksExact.{ChunksExact}
use Rattle.std.specs.Iterator.{AlwaysYields}
use Rattle.std.proofs.lemmas.Iterator.{YieldsList}
use Rattle.std.proofs.lemmas.List.{drop_more, drop_at, take_at, drop-take}
use Rattle.std.proofs.Math.Nat.{mul-suc, mul-zero}
use Rattle.std.proofs.Math.Bool.{and_assoc}
use Rattle.std.proofs.lemmas.Bool.{true≢false}
use Rattle.layout.specs.Layout.{all_pass, body_passes, groups, groups_pass, run_passes, shape}
use Rattle.shape.specs.Shapes.{Layout}
use Rattle.shape.specs.declared.Field.{Field}

-- whole chunks come one after another
chunks_give : {A : Type 0} (k n : ℕ) (xs : List A) (s : ChunksExact A) → 0 < n → length xs ≡ n * k → chunks_exact_size s ≡ n → chunks_exact_rest s ≡ xs → AlwaysYields chunks_exact_steps (λ x. x.now) s (first_chunks n k xs)
chunks_give {A} zero n xs s pos e size rest =
    λ x j h.
    let l : length (x.now ++ chunks_exact_rest j) ≡ n * 0 = ap length (sym h.1.0 ∙ rest) ∙ e in
    let z = mul-zero n in
    absurd (omega (arith, length-append x.now (chunks_exact_rest j), h.1.1))
chunks_give {A} (suc k) n xs s pos e size rest = (
  (λ j h. let m = mul-suc n k in absurd (omega (arith, h.1.0, ap length rest))),
  λ x j h.
      let is : xs ≡ x.now ++ chunks_exact_rest j = sym rest ∙ h.1.0 in
      let long : length x.now ≡ n = h.1.1 ∙ size in
      let after : drop n xs ≡ chunks_exact_rest j = ap (drop n) is ∙ drop_at x.now (chunks_exact_rest j) n long in
      let m = mul-suc n k in
      let e' : length (drop n xs) ≡ n * k = omega (arith, ap length after, ap length is, length-append x.now (chunks_exact_rest j)) in (
        sym (ap (take n) is ∙ take_at x.now (chunks_exact_rest j) n long),
        chunks_give k n (drop n xs) j pos e' (h.0 ∙ size) (sym after),
      ),
)

pub YieldsList-from_chunks : {A : Type 0} {s : ChunksExact A} (k n : ℕ) (xs : List A) → 0 < n → length xs ≡ n * k → chunks_exact_size s ≡ n → chunks_exact_rest s ≡ xs → YieldsList chunks_exact_steps (λ x. x.now) s (first_chunks n k xs)
YieldsList-from_chunks {A} {s} k n xs pos e size rest = record { runs = chunks_give k n xs s pos e size rest }

module _ (t : Field → ℕ → Bool) where
  pub zip_passes : (fs : List Field) (ws : List ℕ) (q : ℕ) → q + length fs ≤ length ws → all_pass t fs (drop q ws) ≡ run_passes t fs ws q
  unfolding run_passes
  zip_passes [] ws q h = refl
  zip_passes (f ∷ fs) ws q h =
      ap (λ l. list_all (λ p. t p.0 p.1) (zip (f ∷ fs) l)) (drop_more ws q 0 (omega arith))
      ∙ ap (λ b. t f (get_or ws q 0) && b) (zip_passes fs ws (q + 1) (omega arith))

  zip_take : (fs : List Field) (n : ℕ) (ws : List ℕ) → length fs ≤ n → zip fs (take n ws) ≡ zip fs ws
  zip_take [] n ws h = refl
  zip_take (f ∷ fs) zero ws h = absurd (omega arith)
  zip_take (f ∷ fs) (suc n) [] h = refl
  zip_take (f ∷ fs) (suc n) (w ∷ ws) h = ap (λ l. (f, w) ∷ l) (zip_take fs n ws (omega arith))

  cut_passes : (fs : List Field) (ws : List ℕ) (q m : ℕ) → length fs ≤ m → q + length fs ≤ length ws → all_pass t fs (take m (drop q ws)) ≡ run_passes t fs ws q
  cut_passes fs ws q m h w = ap (list_all (λ p. t p.0 p.1)) (zip_take fs m (drop q ws) h) ∙ zip_passes fs ws q w

  pub chunks_pass : (fs : List Field) (k : ℕ) (ws : List ℕ) (q m : ℕ) → length fs * k ≤ m → q + length fs * k ≤ length ws → list_all (all_pass t fs) (first_chunks (length fs) k (take m (drop q ws))) ≡ groups_pass t fs ws q k
  unfolding groups_pass
  chunks_pass fs zero ws q m h w = refl
  chunks_pass fs (suc k) ws q m h w =
      let n = length fs in
      let u = mul-suc n k in
      let split : m ≡ n + (m - n) = omega arith in
      let first : zip fs (take n (take m (drop q ws))) ≡ zip fs (drop q ws) =
      zip_take fs n (take m (drop q ws)) (omega arith) ∙ zip_take fs m (drop q ws) (omega arith) in
      let rest : drop n (take m (drop q ws)) ≡ take (m - n) (drop (q + n) ws) =
      ap (λ j. drop n (take j (drop q ws))) split ∙ drop-take n (m - n) (drop q ws) ∙ ap (take (m - n)) (drop-drop n q ws) in
      ap (λ l. list_all (λ p. t p.0 p.1) l && list_all (all_pass t fs) (first_chunks n k (drop n (take m (drop q ws))))) first
      ∙ ap (λ b. b && list_all (all_pass t fs) (first_chunks n k (drop n (take m (drop q ws))))) (zip_passes fs ws q (omega arith))
      ∙ ap (λ l. run_passes t fs ws q && list_all (all_pass t fs) (first_chunks n k l)) rest
      ∙ ap (λ b. run_passes t fs ws q && b) (chunks_pass fs k ws (q + n) (m - n) (omega arith) (omega arith))

  pub no_fields : (k : ℕ) (ws : List ℕ) → list_all (all_pass t []) (first_chunks 0 k ws) ≡ true
  no_fields zero ws = refl
  no_fields (suc k) ws = no_fields k ws

-- the parts of a body, in the slices that the walk cuts for them
module _ (t : Field → ℕ → Bool) (ws : List ℕ) (p e : ℕ) (s : Layout) (is : s ≡ shape ws p) (ends : e ≡ p + 1 + length s.head + length s.group * groups ws p + length s.tail) (whole : e ≤ length ws) where
  abbrev from : ℕ
  from = p + 1 + length s.head

  abbrev behind : ℕ
  behind = e - length s.tail

  pub groups_long : length (slice_range ws from behind) ≡ length s.group * groups ws p
  groups_long = omega (arith, ends, length-take (behind - from) (drop from ws), length-drop from ws)

  abbrev pub head_passes : Bool
  head_passes = all_pass t s.head (slice_range ws (p + 1) from)

  abbrev pub groups_do : Bool
  groups_do = list_all (all_pass t s.group) (first_chunks (length s.group) (groups ws p) (slice_range ws from behind))

  abbrev pub tail_passes : Bool
  tail_passes = all_pass t s.tail (slice_range ws behind e)

  body_is : body_passes t ws p ≡ ((head_passes && groups_do) && tail_passes)
  unfolding body_passes
  body_is =
      let k = groups ws p in
      let b : behind ≡ from + length s.group * k = omega (arith, ends) in
      let head = cut_passes t s.head ws (p + 1) (from - (p + 1)) (omega arith) (omega (arith, ends)) in
      let group = chunks_pass t s.group k ws from (behind - from) (omega arith) (omega (arith, ends)) in
      let tail : tail_passes ≡ run_passes t s.tail ws (from + length s.group * k) =
      ap (λ q. all_pass t s.tail (slice_range ws q e)) b ∙ cut_passes t s.tail ws (from + length s.group * k) (e - (from + length s.group * k)) (omega (arith, ends)) (omega (arith, ends)) in
      ap (λ (x : Layout). run_passes t x.head ws (p + 1) && (groups_pass t x.group ws (p + 1 + length x.head) k && run_passes t x.tail ws (p + 1 + length x.head + length x.group * k))) (sym is)
      ∙ sym (and_assoc (run_passes t s.head ws (p + 1)) (groups_pass t s.group ws from k) (run_passes t s.tail ws (from + length s.group * k)))
      ∙ ap (λ x. (x && groups_pass t s.group ws from k) && run_passes t s.tail ws (from + length s.group * k)) (sym head)
      ∙ ap (λ x. (head_passes && x) && run_passes t s.tail ws (from + length s.group * k)) (sym group)
      ∙ ap (λ x. (head_passes && groups_do) && x) (sym tail)

  -- what the three tests answer, one after another
  pub answered : (h two all : Bool) → h ≡ head_passes → two ≡ (h && groups_do) → all ≡ (two && tail_passes) → all ≡ body_passes t ws p
  answered h two all a b c =
      c ∙ ap (λ x. x && tail_passes) (b ∙ ap (λ x. x && groups_do) a) ∙ sym body_is

-- the answer of a conjunction, by what its first part answered
pub and_then : (a b v : Bool) → a ≡ true → v ≡ b → v ≡ (a && b)
and_then true b v h e = e
and_then false b v h e = absurd (true≢false (sym h))

pub and_not : (a b v : Bool) → a ≡ false → v ≡ a → v ≡ (a && b)
and_not true b v h e = absurd (true≢false h)
and_not false b v h e = e
