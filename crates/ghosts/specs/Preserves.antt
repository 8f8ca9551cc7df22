-- How a device and its initial state are related.

-- If the device relates to some initial state before, it does after: what calls ensure of `started_as`.
abbrev pub Preserves : {Start Device : Type 0} → (Start → Device → Type 0) → Device → Device → Type 0
Preserves {Start = S} ComesOf old new = (start : S) → ComesOf start old → ComesOf start new
