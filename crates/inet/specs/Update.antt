-- The checksum of a header in which one word changes, from the checksum that it had: RFC 1624, whose HC, m and m' are hc, m and n here.
use Rattle.std.specs.Prelude.{ℕ, ◌+◌, ◌-◌}
use Rattle.inet.specs.Sum.{fold}

-- the complement of a word
abbrev pub complement : ℕ → ℕ
complement w = 65535 - w

-- equation 3: HC' = ~(~HC + ~m + m')
abbrev pub equation3 : ℕ → ℕ → ℕ → ℕ
equation3 hc m n = complement (fold (complement hc + complement m + n))

-- where m is the word of hop count and protocol, n that of one hop fewer: n is m - 256, and ~m + m' is one number for every m
abbrev pub hop_fewer : ℕ
hop_fewer = 65279

-- equation 3 of a header with one hop fewer
abbrev pub after_hop : ℕ → ℕ
after_hop hc = complement (fold (complement hc + hop_fewer))

-- equation 2, that of RFC 1141, which gives FFFF where the sum made again gives 0000: HC' = HC + m + ~m'
unfoldable pub equation2 : ℕ → ℕ → ℕ → ℕ
equation2 hc m n = fold (hc + m + complement n)
