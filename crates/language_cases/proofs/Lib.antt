mod LoadTexts
