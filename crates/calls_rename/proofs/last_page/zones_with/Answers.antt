use Rattle.std.proofs.Common.{◌≡◌, ◌+◌, ◌-◌, ◌*◌, ◌/◌, ◌%◌, ℕ, Bool, true, false, refl, sym, ap, ◌∙◌, arith}
use Rattle.std.specs.Prelude.{◌&&◌, ◌==◌}
use Rattle.std.proofs.lemmas.Bool.{le-leb, lt-leb}
use mir.Val.{bool_byte}
use Rattle.lemmas.specs.Sums.{one_if}
use Rattle.calls_rename.proofs.Pages.{page_more, is_last_first, is_second_first, is_third_first}
use Rattle.calls_rename.proofs.last_page.zones_with.Goals as goal
use Rattle.calls_rename.proofs.last_page.zones_with.Goals.{then-page-ge7, else-page-ge7, then-page-numbers, else-page-numbers}

byte_is : (b : Bool) → bool_byte b ≡ one_if b
byte_is true = refl
byte_is false = refl

pub returns : goal.returns
returns c =
    let p : ℕ = c.args.page in
    let n : ℕ = c.args.geometry.now.block_size / 4 in
    let last : c.if-page-ge7.last ≡ is_last_first n p = elim c.if-page-ge7.branch [
      | then-page-ge7 w ↦ let is : is_last_first n p ≡ ((p - 7) % n == 0) = ap (λ b. b && ((p - 7) % n == 0)) (le-leb 7 p w.if-page-ge7.true) in w.last-is ∙ sym is
      | else-page-ge7 w ↦ let is : is_last_first n p ≡ false = ap (λ b. b && ((p - 7) % n == 0)) (lt-leb 7 p w.if-page-ge7.false) in w.last-is ∙ lt-leb 7 p w.if-page-ge7.false ∙ sym is
    ] in
    let second : c.if-page-numbers.second ≡ is_second_first n p = elim c.if-page-numbers.branch [
      | then-page-numbers w ↦
          let is : is_second_first n p ≡ ((p - 7 - n) % (n * n) == 0) = ap (λ b. b && ((p - 7 - n) % (n * n) == 0)) (le-leb (7 + n) p w.if-page-numbers.true) in
          w.second-is ∙ sym is
      | else-page-numbers w ↦
          let is : is_second_first n p ≡ false = ap (λ b. b && ((p - 7 - n) % (n * n) == 0)) (lt-leb (7 + n) p w.if-page-numbers.false) in
          w.second-is ∙ lt-leb (7 + n) p w.if-page-numbers.false ∙ sym is
    ] in
    let x : c.from.result ≡ one_if (is_last_first n p) = c.from.ensures ∙ byte_is c.if-page-ge7.last ∙ ap one_if last in
    let y : c.from-2.result ≡ one_if (is_second_first n p) = c.from-2.ensures ∙ byte_is c.if-page-numbers.second ∙ ap one_if second in
    let z : c.from-3.result ≡ one_if (is_third_first n p) = c.from-3.ensures ∙ byte_is (is_third_first n p) in
    let all = page_more c.args.geometry.now.block_size p c.requires.geometry.block_size c.requires.page in
    omega (arith, all, x, y, z)
