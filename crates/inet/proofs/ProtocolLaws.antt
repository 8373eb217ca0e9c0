-- What the chain of headers says of an IPv6 packet. Assumes nothing.
use mathlib.Core.Path.{◌≡◌, sym, ap, ◌∙◌}
use mathlib.Core.Bool.{true, false, not}
use mathlib.Core.List.{List}
use Prim.Native.Nat.{ℕ, ◌≤◌}
use native.Mathlib.Omega.{arith}
use lib.ListN.{length, get_or, drop}
use lib.Dec.{eqb}
use borrow.Author.Tests.{eq-eqb, ne_eqb}
use Rattle.std.specs.Prelude.{Some, None}
use Rattle.chain.specs.Chain.{plain, class_of, size_of, offset_of, later, chain, chain_of, protocol_in, whole}
use Rattle.inet.specs.Packet.{version_of, form, protocol_of, protocol_byte, is_icmp}
use Rattle.inet.proofs.FormFacts.{form_fails, is-form6}
use Rattle.inet.proofs.HeaderLaws.{protocol_of_6, protocol_byte_6, is_icmp_6}
use Rattle.chain.proofs.ChainLaws.{chain-plain, chain-later, chain_next}

-- it depends on byte 6 and on the bytes from 40 on alone
pub chain_same : (p q : List ℕ) → get_or p 6 0 ≡ get_or q 6 0 → drop 40 p ≡ drop 40 q → chain_of p ≡ chain_of q
unfolding chain_of
chain_same p q e f = rw (e, f)

module _ (p : List ℕ) (v : version_of p ≡ 6) where
  -- without extension headers the protocol is byte 6
  pub protocol-plain : class_of (get_or p 6 0) ≡ plain → protocol_of p ≡ protocol_byte p
  unfolding chain_of
  protocol-plain e = protocol_of_6 p v ∙ ap protocol_in (chain-plain (get_or p 6 0) (drop 40 p) e) ∙ sym (protocol_byte_6 p v)

  -- a chain that runs past the packet
  pub past-bad : chain_of p ≡ None → form p ≡ false
  past-bad e = form_fails p (λ f. clash (sym (is-form6 p f (λ four. omega arith)).chain ∙ ap whole e))
    where
      clash : true ≡ false → ⊥
      clash t = let z : ◌≡◌ {A = ℕ} 0 1 = cc in omega arith

  module _ {n : ℕ} (e : chain_of p ≡ Some n) where
    icmp_is : eqb n 58 ≡ is_icmp p
    icmp_is = ap (λ (m : ℕ). eqb m 58) (sym (protocol_of_6 p v ∙ ap protocol_in e)) ∙ is_icmp_6 p v

    -- ICMP behind any headers, and nothing else
    pub icmp_behind : n ≡ 58 → is_icmp p ≡ true
    icmp_behind k = sym icmp_is ∙ eq-eqb n 58 k

    pub icmp_not : (n ≡ 58 → ⊥) → is_icmp p ≡ false
    icmp_not k = sym icmp_is ∙ ne_eqb n 58 k

-- a fragment that is there whole: the first goes on behind its header, a later one does not
module _ (l : List ℕ) (h : 8 ≤ length l) where
  pub chain-first_fragment : offset_of l ≡ 0 → chain 44 l ≡ chain (get_or l 0 0) (drop 8 l)
  unfolding class_of size_of later
  chain-first_fragment e = chain_next 44 l (λ z. omega arith) h (ap (λ (o : ℕ). not (eqb o 0)) e)

  pub chain-later-fragment : (offset_of l ≡ 0 → ⊥) → chain 44 l ≡ Some 44
  unfolding class_of size_of later
  chain-later-fragment x = chain-later 44 l (λ z. omega arith) h (ap not (ne_eqb (offset_of l) 0 x))
