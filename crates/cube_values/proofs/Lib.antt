pub mod WhatIsLeft
pub mod BitMasks
pub mod BitNext
pub mod BitWords
pub mod BitCounts
pub mod BitLists
pub mod FlatRows
pub mod Quotients
