-- Computed examples: chains of IPv6 headers, each header by the section of RFC 8200 that shows it, or as said. Assumes nothing.
use Rattle.std.specs.Prelude.{◌≡◌, refl, Some, None, Bool, true, not, ◌&&◌, List, [], ◌∷◌, ◌++◌, ℕ, zero, suc, take}
use Rattle.chain.specs.Chain.{class_of, size_of, later, onward, walk, chain, whole}

-- hop-by-hop options (section 4.3): 8 bytes, all of them PadN
unfoldable pub hop_by_hop : ℕ → List ℕ
hop_by_hop next = next ∷ 0x00 ∷ 0x01 ∷ 0x04 ∷ 0x00 ∷ 0x00 ∷ 0x00 ∷ 0x00 ∷ []

-- routing (4.4): type 0, one address, none left: 24 bytes
routing : ℕ → List ℕ
routing next =
    next ∷ 0x02 ∷ 0x00 ∷ 0x00 ∷ 0x00 ∷ 0x00 ∷ 0x00 ∷ 0x00
    ∷ 0x20 ∷ 0x01 ∷ 0x0d ∷ 0xb8 ∷ 0x00 ∷ 0x00 ∷ 0x00 ∷ 0x00 ∷ 0x00 ∷ 0x00 ∷ 0x00 ∷ 0x00 ∷ 0x00 ∷ 0x00 ∷ 0x00 ∷ 0x03 ∷ []

-- fragment (4.5): the offset and the flag for more in bytes 2 and 3, then the identification
unfoldable pub fragment_of : ℕ → ℕ → ℕ → List ℕ
fragment_of next hi lo = next ∷ 0x00 ∷ hi ∷ lo ∷ 0x12 ∷ 0x34 ∷ 0x56 ∷ 0x78 ∷ []

-- destination options (4.6): 16 bytes, all of them PadN
destination_options : ℕ → List ℕ
destination_options next =
    next ∷ 0x01 ∷ 0x01 ∷ 0x0c ∷ 0x00 ∷ 0x00 ∷ 0x00 ∷ 0x00 ∷ 0x00 ∷ 0x00 ∷ 0x00 ∷ 0x00 ∷ 0x00 ∷ 0x00 ∷ 0x00 ∷ 0x00 ∷ []

-- authentication (RFC 4302, section 2): a length of 4 is 24 bytes, with 12 of integrity check
authentication : ℕ → List ℕ
authentication next =
    next ∷ 0x04 ∷ 0x00 ∷ 0x00 ∷ 0x00 ∷ 0x00 ∷ 0x01 ∷ 0x00 ∷ 0x00 ∷ 0x00 ∷ 0x00 ∷ 0x01
    ∷ 0xa0 ∷ 0xa1 ∷ 0xa2 ∷ 0xa3 ∷ 0xa4 ∷ 0xa5 ∷ 0xa6 ∷ 0xa7 ∷ 0xa8 ∷ 0xa9 ∷ 0xaa ∷ 0xab ∷ []

-- mobility (RFC 6275, section 6.1): a binding refresh request of 8 bytes, nothing behind it
mobility : ℕ → List ℕ
mobility next = next ∷ 0x00 ∷ 0x00 ∷ 0x00 ∷ 0x00 ∷ 0x00 ∷ 0x00 ∷ 0x00 ∷ []

-- ICMPv6: an echo request
unfoldable pub echo : List ℕ
echo = 0x80 ∷ 0x00 ∷ 0x00 ∷ 0x00 ∷ 0x00 ∷ 0x01 ∷ 0x00 ∷ 0x01 ∷ []

-- the order of section 4.1, all of them: 8, 16, 24, 8, 24 and 16 bytes
long_chain : List ℕ
long_chain =
    hop_by_hop 60
    ++ (destination_options 43 ++ (routing 44 ++ (fragment_of 51 0x00 0x01 ++ (authentication 60 ++ (destination_options 58 ++ echo)))))

chain-long : chain 0 long_chain ≡ Some 58
unfolding long_chain hop_by_hop destination_options routing fragment_of authentication echo chain walk onward class_of size_of later
chain-long = refl

-- cut anywhere before its end, which is at 96, it is not there whole
cut_all : ℕ → ℕ → List ℕ → Bool
cut_all zero n l = true
cut_all (suc k) n l = not (whole (chain n (take k l))) && cut_all k n l

chain-cut : cut_all 96 0 long_chain ≡ true
unfolding cut_all long_chain hop_by_hop destination_options routing fragment_of authentication echo chain walk onward class_of size_of later
chain-cut = refl

chain_uncut : chain 0 (take 96 long_chain) ≡ Some 58
unfolding long_chain hop_by_hop destination_options routing fragment_of authentication echo chain walk onward class_of size_of later
chain_uncut = refl

-- no extension header: encrypted content, and no content
chain_50 : chain 50 [] ≡ Some 50
unfolding chain walk onward class_of
chain_50 = refl

chain_59 : chain 135 (mobility 59) ≡ Some 59
unfolding mobility chain walk onward class_of size_of later
chain_59 = refl

-- a first fragment goes on, whatever its flag and its two reserved bits say; a later one does not
chain_first : chain 44 (fragment_of 58 0x00 0x07 ++ echo) ≡ Some 58
unfolding fragment_of echo chain walk onward class_of size_of later
chain_first = refl

chain_next_offset : chain 44 (fragment_of 58 0x00 0x08 ++ echo) ≡ Some 44
unfolding fragment_of echo chain walk onward class_of size_of later
chain_next_offset = refl

chain_1448 : chain 44 (fragment_of 58 0x05 0xa9) ≡ Some 44
unfolding fragment_of chain walk onward class_of size_of later
chain_1448 = refl

-- a later one has to be there whole too
chain_1448-cut : cut_all 8 44 (fragment_of 58 0x05 0xa9) ≡ true
unfolding cut_all fragment_of chain walk onward class_of size_of later
chain_1448-cut = refl

-- a length byte that lies
chain_lies : chain 0 (58 ∷ 0xff ∷ 0x01 ∷ 0x04 ∷ 0x00 ∷ 0x00 ∷ 0x00 ∷ 0x00 ∷ echo) ≡ None
unfolding echo chain walk onward class_of size_of
chain_lies = refl
