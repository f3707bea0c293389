pub mod Ends
pub mod SameRows
pub mod VisibleRows
pub mod WhatStays
